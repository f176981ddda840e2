-- The best of the requests that were looked at, one more at a time.
use Rattle.std.proofs.Common.{◌≡◌, ℕ, ◌+◌, ◌<◌, ◌≤◌, ◌↔◌, max, List, arith, refl, subst}
use Rattle.frfcfs.proofs.Common.{AreBest, Best, Bests, Checked, Command, IsBest, IsBetter, IsEligible, IsEnd, IsInGeometry, IsLawful, Pending, Stamped, Takes, least_clock}
use Rattle.ddr4_timing.proofs.Ready.{ready_lawful}
use Rattle.frfcfs.proofs.Lists.{one_at}
use Rattle.frfcfs.proofs.HitLemmas.{WaitsAt}
use Rattle.frfcfs.proofs.Wants.{IsWish, column_place, row_bank, takes_from}

-- one more that takes nothing
pub best_skip : (T : ℕ → ℕ → Type 0) (now limit index : ℕ) (best : Best) → ((k : ℕ) → ¬ T index k) → IsBest T now limit index best → IsBest T now limit (index + 1) best
best_skip T now limit index best never before = grind (arith, before.found, before.first, never)

-- one more that takes at the clocks of a span
pub best_offer : (T : ℕ → ℕ → Type 0) (now limit index least from end : ℕ) (old new : Best) → from ≡ max least now → end ≤ limit → ((k : ℕ) → (T index k ↔ ((least ≤ k) × (k < end)))) → IsBetter old index from end new → IsBest T now limit index old → IsBest T now limit (index + 1) new
best_offer T now limit index least from end old new is early takes better before = grind (arith, better, takes, before.found, before.first)

-- an eligible request that wants no command of a class that the geometry has
pub class_skip : (Wants : Pending → Command → Type 0) (c : Checked) (list : List Stamped) (pending : List Pending) (now last limit index : ℕ) (request : Pending) (best : Best) → IsEligible pending index request →
    ((cmd : Command) → Wants request cmd → ¬ IsInGeometry c.geometry cmd) → IsBest (Takes Wants c list pending last) now limit index best → IsBest (Takes Wants c list pending last) now limit (index + 1) best
class_skip Wants c list pending now last limit index request best el never before =
    best_skip _ now limit index best (λ k h. never h.1 (subst (λ (r : Pending). Wants r h.1) (one_at pending index index h.0 request h.3.here el.here refl) h.5) (ready_lawful c list (record { clock = k; cmd = h.1 }) h.4.lawful).rows.place) before

-- one that wants a command of it
pub class_offer : (Wants : Pending → Command → Type 0) (c : Checked) (list : List Stamped) (pending : List Pending) (now last limit index end least from : ℕ) (request : Pending) (cmd : Command) (old new : Best) →
    IsLawful c list → IsWish Wants c list request cmd → IsEligible pending index request → IsEnd c list request.place.rank last end → end ≤ limit → least ≡ least_clock c.timing list cmd → from ≡ max least now → IsBetter old index from end new →
    IsBest (Takes Wants c list pending last) now limit index old → IsBest (Takes Wants c list pending last) now limit (index + 1) new
class_offer Wants c list pending now last limit index end least from request cmd old new lawful wish el ends early is clock =
    best_offer _ now limit index least from end old new clock early (λ k. takes_from Wants c list pending last index least end k request cmd lawful wish el is ends)

-- one more that isn't eligible, or whose bank isn't there
pub best_past : (c : Checked) (list : List Stamped) (pending : List Pending) (now last limit index : ℕ) (bests : Bests) → ¬ WaitsAt c.geometry pending index →
    AreBest c list pending now last limit index bests → AreBest c list pending now last limit (index + 1) bests
best_past c list pending now last limit index bests never before = record {
  column = best_skip _ now limit index bests.column (λ k h. never (h.0, h.3, (column_place c.geometry list h.0 h.1 h.5 (ready_lawful c list (record { clock = k; cmd = h.1 }) h.4.lawful).rows.place).0)) before.column;
  row = best_skip _ now limit index bests.row (λ k h. never (h.0, h.3, row_bank c.geometry list pending h.0 h.1 h.5 (ready_lawful c list (record { clock = k; cmd = h.1 }) h.4.lawful).rows.place)) before.row;
}
