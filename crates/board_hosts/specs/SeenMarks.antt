-- What a seat is to its callers.
use Rattle.std.specs.Prelude.{◌≡◌, ℕ, ◌≤◌, All, List}
use Rattle.atomic_table.specs.Seated.{TableId}

-- the board that a seat is of, and how many writes it has seen to be accepted, and how many to be persistent
pub record SeenMarks : Type 0 where
  pub board : TableId
  pub accepted : ℕ
  pub persisted : ℕ

abbrev pub seen_marks : TableId → ℕ → ℕ → SeenMarks
seen_marks board accepted persisted = record { board = board; accepted = accepted; persisted = persisted }

-- every one of these seats has seen these marks
abbrev pub AllHaveSeen : SeenMarks → List SeenMarks → Type 0
AllHaveSeen marks seats = All (λ seat. seat ≡ marks) seats

-- neither mark is above the other seat's
pub record IsNotAbove (marks others : SeenMarks) : Type 0 where
  pub accepted : marks.accepted ≤ others.accepted
  pub persisted : marks.persisted ≤ others.persisted
