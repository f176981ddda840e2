-- The marks of a board, and the two numbers of its module.
use Rattle.std.specs.Prelude.{ℕ, ◌≤◌}
use Rattle.atomic_table.specs.Seated.{TableId}
use Rattle.board_hosts.specs.SeenMarks.{SeenMarks, seen_marks}
use Rattle.channel_port.specs.declared.port.ChannelPort.{Ghosts}
use Rattle.module_core.specs.declared.module.Module.{Module}
use Rattle.nv_machine.specs.declared.events.Accepted.{Accepted}

-- an accepted write of this number, with this mark
abbrev pub told_at : ℕ → ℕ → Accepted
told_at number mark = record { number = number; mark = mark }

-- so many writes were accepted and so many of them are persistent, and the marks show no more of either
pub record ShowsNoMore (accepted persisted : ℕ) (marks : SeenMarks) : Type 0 where
  pub accepted_shown : marks.accepted ≤ accepted
  pub persisted_shown : marks.persisted ≤ persisted
  pub ordered : persisted ≤ accepted

module _ {K : Type 0} (L : Ghosts K) where
  -- what the board's seat sees where the marks are the module's two numbers
  abbrev pub marks_of : TableId → Module K L → SeenMarks
  marks_of board it = seen_marks board it.front.accepted it.front.persisted
