-- What the earliest clock of a command says of the banks of its rank.
use Rattle.std.proofs.Common.{◌≡◌, ℕ, ◌<◌, List, Option, Some, None, inl, inr, sym}
use Rattle.drain_core.proofs.Common.{AreAwake, Checked, IsEarliest, PreAll, Stamped, cases_Bool, has_open_bank, is_some}
use Rattle.drain_core.proofs.OneCommand.{has_open_bank-true, has_open_bank-false}

-- a PREA may go exactly where a bank is open
pub tells_open_bank : (c : Checked) (list : List Stamped) (rank : ℕ) (result : Option ℕ) → rank < c.geometry.ranks → AreAwake c list → IsEarliest c list (PreAll rank) result → is_some result ≡ has_open_bank c.geometry rank list
tells_open_bank c list rank None within awake e =
    elim (cases_Bool (has_open_bank c.geometry rank list)) [
      | inl some ↦ absurd (e.0 (record { place = within; awake = awake rank within; rows = has_open_bank-true c.geometry rank list some }))
      | inr none ↦ sym none
    ]
tells_open_bank c list rank (Some clock) within awake e =
    elim (cases_Bool (has_open_bank c.geometry rank list)) [
      | inl some ↦ sym some
      | inr none ↦ absurd (e.0.rows (has_open_bank-false c.geometry rank list none))
    ]
