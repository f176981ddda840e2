-- A wait at a gate while a lock is held.
use Rattle.std.specs.Prelude.{◌≡◌, ◌⊎◌, ℕ, ◌-◌, ◌<◌, ◌^◌}
use Rattle.worker_turns.specs.declared.Turn.TheVariants.{Go, Hold, Stop}
use Rattle.worker_turns.specs.declared.Gate.{Ghosts}

module _ {G : Type 0} (K : Ghosts G) where
  -- It was told to go on; stop counts as that.
  abbrev pub IsLetInside : ℕ → ℕ → G → Type 0
  IsLetInside worker turn gate = K.says_inside worker turn Go gate ⊎ K.says_inside worker turn Stop gate

  -- A worker was held at each question from 0 on, until it was let go on; else it has no question left.
  pub record AwaitsInside (worker : ℕ) (gate : G) : Type 0 where
    pub turn : ℕ
    pub held : (earlier : ℕ) → earlier < turn → K.says_inside worker earlier Hold gate
    pub ends : IsLetInside worker turn gate ⊎ (turn ≡ 2 ^ 64 - 1)
