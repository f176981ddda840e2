-- Payments in turn, one list of actions behind another.
use Rattle.std.proofs.lemmas.List.{append-nil, append_assoc, length-map}
use Rattle.std.proofs.lemmas.Grind.{flat_map-append}
use Rattle.energy_budget.specs.declared.action.Action.{Action}
use Rattle.energy_budget.specs.declared.energy.Dark.{Dark}
use Rattle.energy_budget.specs.Actions.{cost_of, drain_actions}
use Rattle.energy_budget.specs.Gauge.{Gauge}
use Rattle.channel_port.specs.Draining.{HasPaid, Paid, PaysCosts, PaysInTurn, PaysTogether, TakesPaid, TakesTogether, TakesWrites, each_alone, pending_each}
use Rattle.channel_port.proofs.Entries.{alone-costs, alone-first, alone-length, paid-calls, refused-calls}
use Rattle.channel_set.proofs.Common.{arith, ◌≡◌, ◌+◌, ◌≤◌, length, map, Waits, inl, inr, ℕ, zero, suc, refl, sym, ap, subst, ◌∙◌, List, [], ◌∷◌, ◌++◌, flat_map, Err, Ok, Costs, Waiting, cases_eq, writes_on}

-- the calls of a gauge that the payments of actions are
pub actions-calls : (costs : Costs) (actions : List Action) (old new : Gauge) → PaysInTurn costs actions old (Ok tt) new → length new.calls ≡ length old.calls + length actions
actions-calls costs actions old new pays = omega (arith, paid-calls (map (cost_of costs) actions) old new pays, length-map actions (cost_of costs))

pub refused-actions : (costs : Costs) (actions : List Action) (old : Gauge) (dark : Dark) (new : Gauge) → PaysInTurn costs actions old (Err dark) new → length new.calls ≤ length old.calls + length actions
refused-actions costs actions old dark new pays = omega (arith, refused-calls (map (cost_of costs) actions) old dark new pays, length-map actions (cost_of costs))

-- a payment for each action
module _ (costs : Costs) (actions : List Action) (before : Gauge) (result : Paid) (later : Gauge) where
  pub pays-alone : PaysInTurn costs actions before result later → PaysTogether costs (each_alone actions) before result later
  pays-alone pays = subst (λ (cs : List ℕ). PaysCosts cs before result later) (sym (alone-costs costs actions)) pays

  pub takes-alone : (old new : Waits) → TakesPaid actions old before result new later → TakesTogether (each_alone actions) old before result new later
  takes-alone old new did = record {
    paid = did.paid;
    counts = counts result did.counts;
    takes = subst (λ n. TakesWrites n old new) (sym (alone-first did.paid actions)) did.takes;
  }
    where
      counts : (r : Paid) → HasPaid did.paid actions before r later → HasPaid did.paid (each_alone actions) before r later
      counts (Ok done) all = all ∙ sym (alone-length actions)
      counts (Err dark) some = some

pays-then : (costs : Costs) (xs ys : List Action) (before mid : Gauge) (result : Paid) (later : Gauge) → PaysInTurn costs xs before (Ok tt) mid → PaysInTurn costs ys mid result later → PaysInTurn costs (xs ++ ys) before result later
pays-then costs [] ys before mid result later first then = subst (λ g. PaysInTurn costs ys g result later) first then
pays-then costs (x ∷ xs) ys before mid (Ok done) later first then = (first.0, first.1, pays-then costs xs ys first.0 mid (Ok done) later first.2 then)
pays-then costs (x ∷ xs) ys before mid (Err dark) later first then = inr (first.0, first.1, pays-then costs xs ys first.0 mid (Err dark) later first.2 then)

-- after a refusal nothing is paid
pays-cut : (costs : Costs) (xs ys : List Action) (before : Gauge) (dark : Dark) (later : Gauge) → PaysInTurn costs xs before (Err dark) later → PaysInTurn costs (xs ++ ys) before (Err dark) later
pays-cut costs [] ys before dark later pays = absurd pays
pays-cut costs (x ∷ xs) ys before dark later (inl refused) = inl refused
pays-cut costs (x ∷ xs) ys before dark later (inr (mid, paid, rest)) = inr (mid, paid, pays-cut costs xs ys mid dark later rest)

-- one more channel is drained
pub pays-more : (costs : Costs) (i : ℕ) (writes : List Waiting) (before mid : Gauge) (result : Paid) (later : Gauge) → PaysInTurn costs (flat_map drain_actions (pending_each i writes)) before (Ok tt) mid
    → PaysInTurn costs (drain_actions (writes_on i writes)) mid result later → PaysInTurn costs (flat_map drain_actions (pending_each (suc i) writes)) before result later
pays-more costs i writes before mid result later first then =
    let more = flat_map-append drain_actions (pending_each i writes) (writes_on i writes ∷ []) in
    let last = append-nil (drain_actions (writes_on i writes)) in
    subst (λ xs. PaysInTurn costs xs before result later) (sym more)
    (pays-then costs (flat_map drain_actions (pending_each i writes)) (drain_actions (writes_on i writes) ++ []) before mid result later first
    (subst (λ xs. PaysInTurn costs xs mid result later) (sym last) then))

-- the first channels are the first of all
record FirstOf (m n : ℕ) (writes : List Waiting) : Type 0 where
  rest : List ℕ
  is : pending_each n writes ≡ pending_each m writes ++ rest

first-of : (m n : ℕ) (writes : List Waiting) → m ≤ n → FirstOf m n writes
first-of zero n writes less = record { rest = pending_each n writes; is = refl }
first-of (suc m) zero writes less = absurd (omega (arith, less))
first-of (suc m) (suc n) writes less = elim (cases_eq m n) [
  | inl e ↦ record { rest = []; is = ap (λ k. pending_each (suc k) writes) (sym e) ∙ sym (append-nil (pending_each (suc m) writes)) }
  | inr apart ↦
      let before = first-of (suc m) n writes (omega (arith, less, apart)) in
      record { rest = before.rest ++ writes_on n writes ∷ []; is = ap (λ ns. ns ++ writes_on n writes ∷ []) before.is ∙ append_assoc (pending_each (suc m) writes) before.rest (writes_on n writes ∷ []) }
]

-- a payment of the first channels was refused
pub pays-refused : (costs : Costs) (m n : ℕ) (writes : List Waiting) (before : Gauge) (dark : Dark) (later : Gauge) → m ≤ n → PaysInTurn costs (flat_map drain_actions (pending_each m writes)) before (Err dark) later
    → PaysInTurn costs (flat_map drain_actions (pending_each n writes)) before (Err dark) later
pays-refused costs m n writes before dark later less pays =
    let first = first-of m n writes less in
    subst (λ ns. PaysInTurn costs (flat_map drain_actions ns) before (Err dark) later) (sym first.is)
    (subst (λ xs. PaysInTurn costs xs before (Err dark) later) (sym (flat_map-append drain_actions (pending_each m writes) first.rest))
    (pays-cut costs (flat_map drain_actions (pending_each m writes)) (flat_map drain_actions first.rest) before dark later pays))
