-- What an opening is to its callers.
use Rattle.std.specs.Prelude.{ℕ}
use Rattle.atomic_table.specs.Seated.{TableId}

-- which ledger it is and for how many hosts, the board that the words are, and what both words show
pub record OpeningView : Type 0 where
  pub name : ℕ
  pub parts : ℕ
  pub board : TableId
  pub mark : ℕ

abbrev pub opening : ℕ → ℕ → TableId → ℕ → OpeningView
opening name parts board mark = record { name = name; parts = parts; board = board; mark = mark }
