-- The rows of a table: outcomes, and how often each was found.
use Rattle.std.specs.Prelude.{◌≡◌, ◌≢◌, ℕ, ◌+◌, ◌^◌, ◌<◌, Bool, cond, List, [], ◌∷◌, length, map, get_or, All, Option, Some, None, count_by, sum_by}
use Rattle.std.specs.List.{HoldsAt}
use Rattle.crash_table.specs.declared.outcome.Outcome.{Outcome}
use Rattle.crash_table.specs.declared.table.AtStop.{AtStop}
use Rattle.crash_table.specs.declared.table.OutcomeCount.{OutcomeCount}
use Rattle.crash_table.specs.declared.tried.Tried.{Tried}

-- how often outcomes that pass a test are told by rows, and how often they were found
abbrev pub times_told : (Outcome → Bool) → List OutcomeCount → ℕ
times_told asked rows = sum_by (λ row. cond (asked row.outcome) row.times 0) rows

abbrev pub times_found : (Outcome → Bool) → List Tried → ℕ
times_found asked tried = count_by (λ one. asked one.outcome) tried

abbrev pub outcomes_of : List OutcomeCount → List Outcome
outcomes_of rows = map (λ row. row.outcome) rows

-- none of them stands twice
abbrev pub StandOnce : List Outcome → Type 0
StandOnce outcomes = (i j : ℕ) (d : Outcome) → i < j → j < length outcomes → get_or outcomes i d ≢ get_or outcomes j d

-- none tells an outcome that wasn't found
abbrev pub TellSome : List OutcomeCount → Type 0
TellSome rows = All (λ row. 0 < row.times) rows

-- These rows are of what was tried: no outcome has two, none is of an outcome that wasn't found, and whichever outcomes are
-- asked for, they tell as many as were found.
pub record AreRowsOf (tried : List Tried) (rows : List OutcomeCount) : Type 0 where
  pub once : StandOnce (outcomes_of rows)
  pub some : TellSome rows
  pub times : (asked : Outcome → Bool) → times_told asked rows ≡ times_found asked tried

-- the row of an outcome stands at this place, or it has none
abbrev pub IsRowOf : Outcome → List OutcomeCount → Option ℕ → Type 0
IsRowOf outcome rows None = All (λ row. row.outcome ≢ outcome) rows
IsRowOf outcome rows (Some place) = (place < length rows) × HoldsAt (λ row. row.outcome ≡ outcome) rows place

-- the rows tell this outcome once more, and the others as often as before
pub record IsOneMore (outcome : Outcome) (old new : List OutcomeCount) : Type 0 where
  pub once : StandOnce (outcomes_of old) → StandOnce (outcomes_of new)
  pub some : TellSome old → TellSome new
  pub times : (asked : Outcome → Bool) → times_told asked new ≡ times_told asked old + cond (asked outcome) 1 0

-- two rows have the same outcome, and their numbers can be added
abbrev pub IsAlike : OutcomeCount → OutcomeCount → Type 0
IsAlike row other = (row.outcome ≡ other.outcome) × (row.times + other.times < 2 ^ 64)

-- so it is of rows, one after another
pub record AreAlike (rows others : List OutcomeCount) : Type 0 where
  pub sizes : length rows ≡ length others
  pub each : (k : ℕ) (d : OutcomeCount) → k < length rows → IsAlike (get_or rows k d) (get_or others k d)

-- each row tells as many more as the other rows do
pub record AreAdded (others old new : List OutcomeCount) : Type 0 where
  pub same : outcomes_of new ≡ outcomes_of old
  pub some : TellSome old → TellSome new
  pub times : (asked : Outcome → Bool) → times_told asked new ≡ times_told asked old + times_told asked others

-- what was tried of one stop, under the number of its line and with the stop that stands first; none where nothing was tried
abbrev pub IsAtStop : ℕ → List Tried → Option AtStop → Type 0
IsAtStop line [] shown = shown ≡ None
IsAtStop line (first ∷ tried) None = ⊥
IsAtStop line (first ∷ tried) (Some shown) = (shown.line ≡ line) × (shown.stop ≡ first.stop) × AreRowsOf (first ∷ tried) shown.rows.items
