-- The writes that a channel carries. A relation of the channel, here `Carries`, says that its lines were those of a memory at
-- first, and that it was given these writes of them since, with their numbers.
use Rattle.std.specs.Prelude.{◌≡◌, ℕ, ◌≤◌, false, All, List, nat_lt}
use Rattle.std.specs.List.{list_any}
use Rattle.line_memory.specs.declared.parts.Numbered.{Numbered}
use Rattle.channel_port.specs.declared.waiting.Waiting.{Waiting}
use Rattle.channel_port.specs.Waits.{IsPending}

-- what was carried is carried still
abbrev pub KeepsCarried : (List (List ℕ) → List Numbered → Type 0) → (List (List ℕ) → List Numbered → Type 0) → Type 0
KeepsCarried old new = (base : List (List ℕ)) (mine : List Numbered) → old base mine → new base mine

-- no write below n waits
abbrev pub NoneBelow : ℕ → List Waiting → Type 0
NoneBelow n writes = list_any (λ w. nat_lt w.number n) writes ≡ false

-- each of these writes from n on waits
abbrev pub WaitFrom : ℕ → List Numbered → List Waiting → Type 0
WaitFrom n mine writes = All (λ w. n ≤ w.number → IsPending w.number writes) mine
