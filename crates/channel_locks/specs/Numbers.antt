-- The numbers of channels in a list.
use Rattle.std.specs.Prelude.{◌≡◌, ℕ, ◌+◌, ◌≤◌, ◌==◌, Bool, false, List, [], ◌∷◌, slice_get, Option, Some, None}
use Rattle.std.specs.Option.{ForSome}
use Rattle.channel_port.specs.declared.port.ChannelPort.{Ghosts}
use Rattle.channel_locks.specs.declared.locked_channel.LockedChannel.{LockedChannel}
use Rattle.channel_locks.specs.declared.parts_name.PartsName.{Ghosts as NameGhosts}

module _ {K B : Type 0} (L : Ghosts K) (O : NameGhosts B) where
  -- the channels are numbered one by one, from this number on
  abbrev pub AreNumbered : ℕ → List (LockedChannel K B L O) → Type 0
  AreNumbered first channels = (place : ℕ) → ForSome (slice_get channels place) (λ (channel : LockedChannel K B L O). channel.number ≡ first + place)

  -- their numbers rise, from the lowest one below the end
  abbrev pub AreRising : ℕ → ℕ → List (LockedChannel K B L O) → Type 0
  AreRising lowest end [] = lowest ≤ end
  AreRising lowest end (channel ∷ channels) = (lowest ≤ channel.number) × AreRising (channel.number + 1) end channels

  -- whether there is a channel of this number
  abbrev pub has_number : ℕ → Option (LockedChannel K B L O) → Bool
  has_number number None = false
  has_number number (Some channel) = channel.number == number
