-- The rule of the two words, and what a step on one of them tells its seat.
use Rattle.std.specs.Prelude.{◌≡◌, ℕ, ◌≤◌, max, true, false, [], ◌∷◌}
use mathlib.Core.Option.{some}
use lib.ListN.{get_elem?}
use Rattle.atomic_table.specs.Table.{State, Step, Me}
use Rattle.board_hosts.specs.declared.mark_rule.MarkView.{MarkView}

-- the words and the views of all seats
abbrev pub MarkTable : Type 0
MarkTable = State (Unit {0}) MarkView

-- a seat's view; a seat of marks holds no slot
abbrev pub MarkSeat : Type 0
MarkSeat = Me (Unit {0}) MarkView

-- the view of the board's seat at these words
abbrev pub board_view : ℕ → ℕ → MarkView
board_view a p = record { owns = true; accepted = a; persisted = p; joined_accepted = 0; joined_persisted = 0 }

-- the view of a host's seat that has seen these words
abbrev pub host_view : ℕ → ℕ → MarkView
host_view a p = record { owns = false; accepted = a; persisted = p; joined_accepted = 0; joined_persisted = 0 }

-- the view of a new host's seat that has seen as much
abbrev pub split_view : MarkView → MarkView
split_view v = host_view v.accepted v.persisted

-- a view after it took over what another seat has seen
abbrev pub taught_view : MarkView → MarkView → MarkView
taught_view v w = record v { accepted = w.accepted; persisted = w.persisted }

-- a view that has kept what a joined seat has seen
abbrev pub joined_view : MarkView → MarkView → MarkView
joined_view v w = record v { joined_accepted = w.accepted; joined_persisted = w.persisted }

-- no mark of a view is above its word, and those of the board's seat equal them
pub record FitsMarks (board accepted persisted id : ℕ) (v : MarkView) : Type 0 where
  pub accepted_below : v.accepted ≤ accepted
  pub persisted_below : v.persisted ≤ persisted
  pub joined_accepted_below : v.joined_accepted ≤ accepted
  pub joined_persisted_below : v.joined_persisted ≤ persisted
  pub owner : v.owns ≡ true → (id ≡ board) × (v.accepted ≡ accepted) × (v.persisted ≡ persisted)

-- the rule: what is persistent was accepted, and every view fits the words
pub record KeepsMarkRule (table : MarkTable) : Type 0 where
  pub accepted : ℕ
  pub persisted : ℕ
  pub board : ℕ
  pub words : table.words ≡ accepted ∷ persisted ∷ []
  pub ordered : persisted ≤ accepted
  pub fits : (id : ℕ) (v : MarkView) → get_elem? table.views id ≡ some v → FitsMarks board accepted persisted id v

-- the seat has this view after the step
abbrev pub HasView : MarkView → MarkSeat → Type 0
HasView v after = (after.0 ≡ v) × (after.1 ≡ [])

abbrev pub StoresAccepted : Step (Unit {0}) → MarkSeat → ℕ → MarkSeat → Type 0
StoresAccepted step before found = HasView (record before.0 { accepted = step.first })

abbrev pub RaisesPersisted : Step (Unit {0}) → MarkSeat → ℕ → MarkSeat → Type 0
RaisesPersisted step before found = HasView (record before.0 { persisted = max before.0.persisted step.first })

abbrev pub LoadsAccepted : Step (Unit {0}) → MarkSeat → ℕ → MarkSeat → Type 0
LoadsAccepted step before found after =
    (before.0.accepted ≤ found) × HasView (record before.0 { accepted = found }) after

abbrev pub LoadsPersisted : Step (Unit {0}) → MarkSeat → ℕ → MarkSeat → Type 0
LoadsPersisted step before found after =
    (before.0.persisted ≤ found) × HasView (record before.0 { persisted = found }) after

-- what the joined seat had seen isn't above the board's view
abbrev pub ComparesJoined : Step (Unit {0}) → MarkSeat → ℕ → MarkSeat → Type 0
ComparesJoined step before found after =
    (before.0.joined_accepted ≤ before.0.accepted)
    × (before.0.joined_persisted ≤ before.0.persisted)
    × HasView before.0 after
