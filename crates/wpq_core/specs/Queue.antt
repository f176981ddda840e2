-- What contracts see of a queue.
use Rattle.std.specs.Prelude.{◌≡◌, ℕ, ◌≤◌, List, [], ◌∷◌, ◌++◌, length}
use Rattle.wpq_core.specs.declared.queue.PendingWrite.{PendingWrite}
use Rattle.wpq_core.specs.Writes.{NumbersRise, pending_write}

-- how many writes it may hold, and those that it holds, oldest first
pub record Queue : Type 0 where
  pub depth : ℕ
  pub writes : List PendingWrite

-- what is true of every queue
pub record IsWriteQueue (queue : Queue) : Type 0 where
  pub rise : NumbersRise queue.writes
  pub few : length queue.writes ≤ queue.depth
  pub least : 1 ≤ queue.depth
  pub most : queue.depth ≤ 64

-- new is the queue old with one more write
abbrev pub PushesWrite : ℕ → ℕ → List ℕ → Queue → Queue → Type 0
PushesWrite number line bytes old new = new ≡ record old { writes = old.writes ++ pending_write number line bytes ∷ [] }
