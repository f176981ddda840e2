-- The turns of a worker, by what it is lent.
use Rattle.std.specs.Prelude.{◌≡◌, ◌⊎◌, ℕ, zero, suc, ◌+◌, ◌-◌, ◌^◌, min}
use Rattle.worker_turns.specs.declared.turns.Ended.{Ended}
use Rattle.worker_turns.specs.declared.turns.Ended.TheVariants as ended
use Rattle.worker_turns.specs.declared.Turn.{Turn}
use Rattle.worker_turns.specs.declared.Turn.TheVariants.{Go, Hold, Stop}
use Rattle.worker_turns.specs.declared.shift.Shift.{Ghosts}
use Rattle.worker_turns.specs.declared.shift.Working.{Working}
use Rattle.worker_turns.specs.declared.shift.Working.TheVariants.{Worked, Rested, Closed}

module _ {S : Type 0} (G : Ghosts S) where
  -- it gave way behind so many idle turns in a row, which are one more now
  pub record GivesWay (idle next : ℕ) (old new : S) : Type 0 where
    pub rests : G.rests idle old new
    pub more : next ≡ min (idle + 1) (2 ^ 64 - 1)

  -- what it did behind a turn in which it did this, where it goes on
  abbrev pub RestsIfIdle : Working → ℕ → ℕ → S → S → Type 0
  RestsIfIdle Worked idle next old new = (next ≡ 0) × (new ≡ old)
  RestsIfIdle Rested idle next old new = GivesWay idle next old new
  RestsIfIdle Closed idle next old new = ⊥

  -- what it did where the gate told it so and it goes on: one turn at Go, and none where it was held
  abbrev pub ObeysGate : ℕ → Turn → ℕ → ℕ → S → S → Type 0
  ObeysGate worker Go idle next asked new = (done : Working) × (worked : S) × G.works worker done asked worked × RestsIfIdle done idle next worked new
  ObeysGate worker Hold idle next asked new = GivesWay idle next asked new
  ObeysGate worker Stop idle next asked new = ⊥

  -- it asked the gate once, and goes on
  pub record AsksAndObeys (worker turn idle next : ℕ) (old new : S) : Type 0 where
    pub told : Turn
    pub asked : S
    pub asks : G.asks worker turn told old asked
    pub takes : ObeysGate worker told idle next asked new

  -- so many times, from turn 0 on; the last turns, so many, were idle
  abbrev pub TurnByTurn : ℕ → ℕ → ℕ → S → S → Type 0
  TurnByTurn worker zero idle old new = (idle ≡ 0) × (new ≡ old)
  TurnByTurn worker (suc turn) idle old new =
      (before : ℕ) × (mid : S) × TurnByTurn worker turn before old mid × AsksAndObeys worker turn before idle mid new

  -- the turn that ended it: the gate said stop, or mains were lost at a Go; else it has no turn left
  abbrev pub EndsAt : ℕ → ℕ → Ended → S → S → Type 0
  EndsAt worker turn ended.Stopped old new = G.asks worker turn Stop old new ⊎ ((turn ≡ 2 ^ 64 - 1) × (new ≡ old))
  EndsAt worker turn ended.Closed old new = (asked : S) × G.asks worker turn Go old asked × G.works worker Closed asked new

  -- A worker took turns until one ended it so.
  pub record WorksUntil (worker : ℕ) (why : Ended) (old new : S) : Type 0 where
    pub turns : ℕ
    pub idle : ℕ
    pub last : S
    pub takes : TurnByTurn worker turns idle old last
    pub ends : EndsAt worker turns why last new
