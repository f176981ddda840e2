-- A drain whose actions are asked for one by one.
use Rattle.std.proofs.Common.{◌≡◌, ℕ, zero, suc, ◌+◌, ◌<◌, ◌≤◌, List, [], ◌∷◌, ◌++◌, length, take, drop, map, refl, sym, ap, subst, ◌∙◌, arith}
use Rattle.std.proofs.Math.Numerals.{add-one}
use Rattle.drain_core.proofs.Common.{ChannelState, Checked, CostNumbers, EntersOldest, Err, GoesTo, IsErr, MayEnter}
use Rattle.drain_core.proofs.Common.{None, Ok, Place, Result, StepEnd, TakesOldest, closed_by, drain_start_of, drained}
use Rattle.drain_core.proofs.Common.{entered_by, pending_places, placed_writes, progress_of}
use Rattle.energy_budget.specs.declared.action.Action.{Action}
use Rattle.energy_budget.specs.declared.action.Action.TheVariants.{EntryStep}
use Rattle.energy_budget.specs.declared.costs.Costs.{Costs}
use Rattle.energy_budget.specs.declared.energy.Dark.{Dark}
use Rattle.energy_budget.specs.Gauge.{Gauge}
use Rattle.chan_core.specs.Always.{HasRightContents}
use Rattle.drain_core.specs.declared.report.DrainReport.{DrainReport}
use Rattle.drain_core.specs.Drain.{Progress, close_step_of, entry_step_of, entry_steps_of}
use Rattle.drain_core.specs.Paying.{AsksForActions, DrainsForPayment, GrantsActions, PaysAction, drain_action, entered}
use Rattle.drain_core.proofs.DrainingChannel.{IsDraining, draining_first, draining_next, few_places}
use Rattle.drain_core.proofs.Parts.{takes_checked, takes_then}

-- So many entries of a channel's drain were made, and the next may begin at the end's clock.
pub record IsEntering (n : CostNumbers) (first now : ChannelState) (end : StepEnd) (count : ℕ) : Type 0 where
  pub draining : IsDraining n first now end
  pub takes : TakesOldest count first now
  pub so_far : progress_of now end.clock ≡ entered first count

-- after the close step
pub entering-first : (n : CostNumbers) (first now : ChannelState) (end : StepEnd) → HasRightContents first → GoesTo n (close_step_of first.checked.timing first.checked.geometry (drain_start_of first)) 0 first now end → MayEnter now end.clock
    → end.clock + first.checked.geometry.ranks ≤ closed_by first → end.cost ≤ 4000000 → IsEntering n first now end 0
entering-first n first now end contents goes enter clocks cost = record {
  draining = draining_first n first now end (few_places first contents) goes enter clocks cost;
  takes = goes.takes;
  so_far = goes.progress;
}

-- what is taken of a list goes on with the first of what is dropped
take-next : {X : Type 0} (xs : List X) (k : ℕ) (x : X) (rest : List X) → drop k xs ≡ x ∷ rest → take (suc k) xs ≡ take k xs ++ x ∷ []
take-next [] zero x rest e = absurd cc
take-next [] (suc k) x rest e = absurd cc
take-next (y ∷ xs) zero x rest e = cc
take-next (y ∷ xs) (suc k) x rest e = ap (λ ys. y ∷ ys) (take-next xs k x rest e)

entries-then : (c : Checked) (places : List Place) (place : Place) (p : Progress) → entry_steps_of c.timing c.geometry (places ++ place ∷ []) p ≡ entry_step_of c.timing c.geometry place (entry_steps_of c.timing c.geometry places p)
entries-then c [] place p = refl
entries-then c (q ∷ places) place p = entries-then c places place (entry_step_of c.timing c.geometry q p)

drop-places : (k : ℕ) (xs : List (ℕ × Place)) → drop k (map (λ w. w.1) xs) ≡ map (λ w. w.1) (drop k xs)
drop-places zero [] = refl
drop-places zero (x ∷ xs) = refl
drop-places (suc k) [] = refl
drop-places (suc k) (x ∷ xs) = drop-places k xs

-- after one more entry
pub entering-next : (n : CostNumbers) (first now new : ChannelState) (end entry : StepEnd) (count : ℕ) (number : ℕ) (place : Place) (rest : List (ℕ × Place)) → IsEntering n first now end count
    → placed_writes now ≡ (number, place) ∷ rest → GoesTo n (entry_step_of now.checked.timing now.checked.geometry place (progress_of now end.clock)) 1 now new entry → MayEnter new entry.clock
    → entry.clock ≤ entered_by now end.clock → entry.cost ≤ 7000000 → IsEntering n first new (record { clock = entry.clock; cost = end.cost + entry.cost }) (count + 1)
entering-next n first now new end entry count number place rest i placed goes enter clocks cost =
    let c = first.checked in
    let places = pending_places first in
    let same = takes_checked count first now i.takes in
    let next : drop count places ≡ place ∷ map (λ w. w.1) rest = drop-places count (placed_writes first) ∙ ap (map (λ w. w.1)) (sym i.takes.placed ∙ placed) in
    record {
      draining = draining_next n first now new end entry number place rest i.draining placed goes enter clocks cost;
      takes = takes_then count 1 (count + 1) first now new refl i.takes goes.takes;
      so_far = goes.progress ∙ ap (λ (k : Checked). entry_step_of k.timing k.geometry place (progress_of now end.clock)) same
          ∙ ap (entry_step_of c.timing c.geometry place) i.so_far
          ∙ sym (entries-then c (take count places) place (close_step_of c.timing c.geometry (drain_start_of first)))
          ∙ sym (ap (λ taken. entry_steps_of c.timing c.geometry taken (close_step_of c.timing c.geometry (drain_start_of first))) (ap (λ k. take k places) (add-one count) ∙ take-next places count place (map (λ w. w.1) rest) next));
    }

not-empty : {X : Type 0} (xs : List X) (k : ℕ) → k < length xs → drop k xs ≡ [] → ⊥
not-empty [] k less e = omega (arith, less)
not-empty (x ∷ xs) zero less e = cc
not-empty (x ∷ xs) (suc k) less e = not-empty xs k (omega (arith, less)) e

drop-whole : {X : Type 0} (xs : List X) (k : ℕ) → length xs ≤ k → drop k xs ≡ []
drop-whole [] zero less = refl
drop-whole [] (suc k) less = refl
drop-whole (x ∷ xs) zero less = absurd (omega (arith, less))
drop-whole (x ∷ xs) (suc k) less = drop-whole xs k (omega (arith, less))

-- before the last write a write is pending
pub entering-pending : (n : CostNumbers) (first now new : ChannelState) (end : StepEnd) (count : ℕ) → IsEntering n first now end count → count < length first.writes → EntersOldest n now end.clock None new → ⊥
entering-pending n first now new end count i less none = not-empty first.writes count less (sym (ap (λ (s : ChannelState). s.writes) i.takes.same) ∙ none.0)

-- behind the last one none is
pub entered-all : (n : CostNumbers) (first now : ChannelState) (end : StepEnd) (count : ℕ) → IsEntering n first now end count → length first.writes ≤ count → now.writes ≡ []
entered-all n first now end count i all = ap (λ (s : ChannelState). s.writes) i.takes.same ∙ drop-whole first.writes count all

-- what an error that is handed on says
pub handed-on : (result : Result DrainReport Dark) (P : Result DrainReport Dark → Type 0) (dark : Dark) → IsErr result → P (Err dark) → P result
handed-on (Ok report) P dark is p = absurd (let bad : ⊥ = cc in bad)
handed-on (Err other) P dark is p = p

module _ {P : Type 0} (pays : P → Action → Result (Unit {0}) Dark → P → Type 0) where
  -- one more entry is granted
  pub granted-next : (n : ℕ) (old mid new : P) → GrantsActions pays (suc n) old mid → pays mid EntryStep (Ok tt) new → GrantsActions pays (suc (n + 1)) old new
  granted-next n old mid new granted next = subst (λ k. GrantsActions pays (suc k) old new) (sym (add-one n)) (mid, granted, next)

  -- the next one is refused
  pub refused-entry : (n : CostNumbers) (first now : ChannelState) (end : StepEnd) (count : ℕ) (old mid new : P) (dark : Dark) → IsEntering n first now end count → count < length first.writes → GrantsActions pays (suc count) old mid → pays mid EntryStep (Err dark) new
      → DrainsForPayment pays (Err dark) first now old new
  refused-entry n first now end count old mid new dark i less granted refused = record {
    granted = suc count;
    asks = (mid, granted, omega (arith, less), refused);
    drains = (i.takes, ap (λ (p : Progress). p.list) i.so_far);
  }

  -- all of them are granted
  pub granted-all : (report : DrainReport) (first new : ChannelState) (count : ℕ) (old later : P) → count ≡ length first.writes → GrantsActions pays (suc count) old later → new ≡ drained first → DrainsForPayment pays (Ok report) first new old later
  granted-all report first new count old later all granted drains = record { granted = suc count; asks = (omega (arith, all), granted); drains = drains }

-- Who pays from a gauge: it stays the same one, and so do the costs.
module _ {P : Type 0} (name : P → ℕ) (gauge : P → Gauge) (costs : P → Costs) (pays : P → Action → Result (Unit {0}) Dark → P → Type 0)
    (from : (old : P) (action : Action) (result : Result (Unit {0}) Dark) (new : P) → pays old action result new → (name new ≡ name old) × (costs new ≡ costs old) × PaysAction (costs old) (gauge old) action result (gauge new)) where
  -- so many actions were paid for
  record HasPaid (k : Costs) (n : ℕ) (old new : P) : Type 0 where
    same : name new ≡ name old
    kept : costs new ≡ costs old
    paid : GrantsActions (PaysAction k) n (gauge old) (gauge new)

  has-paid : (n : ℕ) (old new : P) → GrantsActions pays n old new → HasPaid (costs old) n old new
  has-paid zero old new is = record { same = ap name is; kept = ap costs is; paid = ap gauge is }
  has-paid (suc n) old new (mid, granted, next) =
      let h = has-paid n old mid granted in
      let (same, kept, paid) = from mid (drain_action n) (Ok tt) new next in
      record {
        same = same ∙ h.same;
        kept = kept ∙ h.kept;
        paid = (gauge mid, h.paid, subst (λ (k : Costs). PaysAction k (gauge mid) (drain_action n) (Ok tt) (gauge new)) h.kept paid);
      }

  asks-paid : (all granted : ℕ) (result : Result DrainReport Dark) (old new : P) → AsksForActions pays all granted result old new
      → (name new ≡ name old) × AsksForActions (PaysAction (costs old)) all granted result (gauge old) (gauge new)
  asks-paid all granted (Ok report) old new (whole, grants) = let h = has-paid granted old new grants in (h.same, (whole, h.paid))
  asks-paid all granted (Err dark) old new (mid, grants, less, refused) =
      let h = has-paid granted old mid grants in
      let (same, kept, paid) = from mid (drain_action granted) (Err dark) new refused in
      (same ∙ h.same, (gauge mid, h.paid, less, subst (λ (k : Costs). PaysAction k (gauge mid) (drain_action granted) (Err dark) (gauge new)) h.kept paid))

  -- a drain for it
  pub drains-paid : (result : Result DrainReport Dark) (first new : ChannelState) (old later : P) → DrainsForPayment pays result first new old later
      → (name later ≡ name old) × DrainsForPayment (PaysAction (costs old)) result first new (gauge old) (gauge later)
  drains-paid result first new old later drains =
      let told = asks-paid (length first.writes + 1) drains.granted result old later drains.asks in
      (told.0, record { granted = drains.granted; asks = told.1; drains = drains.drains })
