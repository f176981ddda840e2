-- The writes that the channels were given since they began, and the memory that they make.
use Rattle.std.specs.Prelude.{◌≡◌, ℕ, ◌<◌, ◌≤◌, List, slice_get, Some}
use Rattle.line_memory.specs.declared.Write.{Write}
use Rattle.line_memory.specs.declared.parts.Numbered.{Numbered}
use Rattle.line_memory.specs.Memory.{IsMemory}
use Rattle.line_memory.specs.Parts.{written_on}
use Rattle.channel_port.specs.declared.port.ChannelPort.{Ghosts}
use Rattle.channel_port.specs.declared.waiting.Waiting.{Waiting}
use Rattle.channel_port.specs.Waits.{Has, IsPending}
use Rattle.channel_set.specs.declared.set.ChannelSet.{ChannelSet}
use Rattle.channel_set.specs.Set.{shape_of}

-- each write from n on, below the end, waits
abbrev pub WaitsFrom : ℕ → ℕ → List Waiting → Type 0
WaitsFrom n end writes = (number : ℕ) → n ≤ number → number < end → IsPending number writes

-- each write that waits is one of these
abbrev pub WaitAmong : List Numbered → List Waiting → Type 0
WaitAmong mine writes = (v : Waiting) → Has v writes → (w : Numbered) × Has w mine × (w.number ≡ v.number)

module _ {K : Type 0} (L : Ghosts K) where
  -- the port carries these writes of its lines, and no other one waits in it
  pub record CarriesOwn (port : K) (base : List (List ℕ)) (mine : List Numbered) : Type 0 where
    pub carries : L.carries port base mine
    pub given : WaitAmong mine (L.view port).waits.writes

  -- They began with the memory `base` when `start` writes had been accepted, and were given these writes since: each channel
  -- carries those that lie on it.
  pub record CarriesAll (channels : ChannelSet K L) (base : List (List ℕ)) (start : ℕ) (writes : List Write) : Type 0 where
    pub memory : IsMemory (shape_of L channels).lines base
    pub each : (number : ℕ) (port : K) → slice_get channels.ports.items number ≡ Some port
        → CarriesOwn port base (written_on (shape_of L channels).channel_of number start writes)

  -- what was carried is carried still
  abbrev pub KeepsAll : ChannelSet K L → ChannelSet K L → Type 0
  KeepsAll old new = (base : List (List ℕ)) (start : ℕ) (writes : List Write) → CarriesAll old base start writes → CarriesAll new base start writes
