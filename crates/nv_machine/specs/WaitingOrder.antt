-- In which order writes wait.
use Rattle.std.specs.Prelude.{◌≡◌, ◌⊎◌, ℕ, ◌<◌, AllPairs, List}
use Rattle.channel_port.specs.declared.waiting.Waiting.{Waiting}
use Rattle.channel_port.specs.Waits.{AllBelow, Has}
use Rattle.nv_machine.specs.State.{Machine, all_of}

-- a write is one of an earlier channel than another one, or the older one of its channel
abbrev pub GoesBefore : Waiting → Waiting → Type 0
GoesBefore first second = (first.channel < second.channel) ⊎ ((first.channel ≡ second.channel) × (first.number < second.number))

-- a write isn't one of these
abbrev pub WaitsNoMore : Waiting → List Waiting → Type 0
WaitsNoMore write writes = Has write writes → ⊥

-- these wait channel by channel, and in each the oldest first; and each is one of so many writes
pub record WaitInOrder (all : ℕ) (writes : List Waiting) : Type 0 where
  pub order : AllPairs GoesBefore writes
  pub below : AllBelow all writes

-- the writes that wait do
abbrev pub IsInOrder : Machine → Type 0
IsInOrder m = WaitInOrder (all_of m) m.waits.writes
