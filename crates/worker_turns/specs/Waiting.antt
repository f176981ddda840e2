-- A wait at a gate.
use Rattle.std.specs.Prelude.{◌≡◌, ◌⊎◌, ℕ, ◌+◌, ◌-◌, ◌<◌, ◌^◌}
use Rattle.worker_turns.specs.declared.Turn.TheVariants.{Go, Hold, Stop}
use Rattle.worker_turns.specs.declared.Gate.{Ghosts}

module _ {G : Type 0} (K : Ghosts G) where
  -- It was told to take its turn, or to return.
  abbrev pub IsLet : ℕ → ℕ → G → Type 0
  IsLet worker turn gate = K.says worker turn Go gate ⊎ K.says worker turn Stop gate

  -- A worker was held at each turn from 0 on, until it was let go or told to return; else it has no turn left.
  pub record AwaitsTurn (worker : ℕ) (gate : G) : Type 0 where
    pub turn : ℕ
    pub held : (earlier : ℕ) → earlier < turn → K.says worker earlier Hold gate
    pub ends : IsLet worker turn gate ⊎ (turn ≡ 2 ^ 64 - 1)

  -- So many workers were each awaited, by the numbers from this one on.
  abbrev pub AreAwaited : G → ℕ → ℕ → Type 0
  AreAwaited gate first count = (i : ℕ) → i < count → AwaitsTurn (first + i) gate
