-- The credits that are out on a board, by the parts of its channels.
use Rattle.std.specs.Prelude.{◌≡◌, ℕ, ◌+◌, ◌<◌, List, [], length, slice_index_or, Option, Some, None}
use Rattle.channel_locks.specs.Slots.{IsPartWhereDue}
use Rattle.channel_locks.specs.declared.parts_name.PartsName.{Ghosts as PartsGhosts}
use Rattle.channel_log.specs.Log.{LogNote}
use Rattle.channel_locks.specs.Stands.{queue_of, returned_of}
use Rattle.channel_locks.specs.declared.part.Part.{Part}
use Rattle.channel_port.specs.declared.port.ChannelPort.{Ghosts}

module _ {K B : Type 0} (L : Ghosts K) (P : PartsGhosts B) where
  -- the writes that wait in a channel's part, and the credits that were returned in it; none where the board lacks the channel
  abbrev pub owed_in : Option (Part K L) → ℕ
  owed_in None = 0
  owed_in (Some part) = length (queue_of L part) + returned_of L part

  -- the parts of the eight channels, each as the log of its channel tells
  pub record AreParts (logs : List (List LogNote)) (parts : List (Option (Part K L))) : Type 0 where
    pub eight : length parts ≡ 8
    pub each : (channel : ℕ) → channel < 8 → ∥ (IsPartWhereDue L P (slice_index_or parts channel None) channel (slice_index_or logs channel [])) ∥₁
