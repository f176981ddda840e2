-- How many writes the actions of drains take into the arrays, and how often a gauge is called for them.
use Rattle.std.specs.Prelude.{Err, Ok, map, replicate, sum_by}
use Rattle.std.proofs.Common.{arith, ◌≡◌, ◌+◌, ◌≤◌, ℕ, zero, suc, refl, sym, ap, ◌∙◌, inl, inr, List, [], ◌∷◌, ◌++◌, cond, length, take}
use Rattle.std.proofs.Math.Seq.{take-length}
use Rattle.std.proofs.lemmas.List.{length-append, length-map, length-replicate, take-map}
use Rattle.std.proofs.lemmas.List.Sums.{sum_by-append, sum_by-cons}
use Rattle.energy_budget.specs.declared.action.Action.{Action}
use Rattle.energy_budget.specs.declared.action.Action.TheVariants.{CloseStep, EntryStep}
use Rattle.energy_budget.specs.declared.costs.Costs.{Costs}
use Rattle.energy_budget.specs.declared.energy.Dark.{Dark}
use Rattle.energy_budget.specs.declared.energy.GaugeCall.TheVariants.{Pay}
use Rattle.energy_budget.specs.Actions.{cost_of, drain_actions, total_cost}
use Rattle.energy_budget.specs.Gauge.{Gauge}
use Rattle.energy_budget.proofs.Totals.{total_cost-cons, total_cost-nil}
use Rattle.channel_port.specs.Draining.{DrainOrder, PaysCosts, at_once, each_alone, entries_in, in_turn, is_entry, payments_in}

entries-cons : (a : Action) (actions : List Action) → entries_in (a ∷ actions) ≡ cond (is_entry a) 1 0 + entries_in actions
entries-cons a actions = sum_by-cons (λ x. cond (is_entry x) 1 0) a actions

pub entries-both : (xs ys : List Action) → entries_in (xs ++ ys) ≡ entries_in xs + entries_in ys
entries-both xs ys = sum_by-append (λ x. cond (is_entry x) 1 0) xs ys

entries-replicated : (c n : ℕ) → c ≤ n → entries_in (take c (replicate n EntryStep)) ≡ c
entries-replicated zero n less = refl
entries-replicated (suc c) zero less = absurd (omega (arith, less))
entries-replicated (suc c) (suc n) less = omega (arith, entries-cons EntryStep (take c (replicate n EntryStep)), entries-replicated c n (omega (arith, less)))

-- a drain whose close step and so many entries were paid for
pub entries-paid : (c n : ℕ) → c ≤ n → entries_in (take (suc c) (drain_actions n)) ≡ c
unfolding drain_actions
entries-paid c n less = omega (arith, entries-cons CloseStep (take c (replicate n EntryStep)), entries-replicated c n less)

pub drain-length : (n : ℕ) → length (drain_actions n) ≡ suc n
unfolding drain_actions
drain-length n = omega (arith, length-replicate n EntryStep)

pub entries-whole : (n : ℕ) → entries_in (drain_actions n) ≡ n
entries-whole n = ap entries_in (sym (take-length (drain_actions n))) ∙ ap (λ k. entries_in (take k (drain_actions n))) (drain-length n) ∙ entries-paid n n (omega arith)

pub entries-most : (j n : ℕ) → j ≤ length (drain_actions n) → entries_in (take j (drain_actions n)) ≤ n
entries-most zero n less = omega arith
entries-most (suc c) n less = omega (arith, entries-paid c n (omega (arith, less, drain-length n)), less, drain-length n)

-- the calls of a gauge that payments are
pub paid-calls : (costs : List ℕ) (old new : Gauge) → PaysCosts costs old (Ok tt) new → length new.calls ≡ length old.calls + length costs
paid-calls [] old new is = omega (arith, ap (λ (g : Gauge). length g.calls) is)
paid-calls (c ∷ costs) old new (mid, pays, rest) = omega (arith, paid-calls costs mid new rest, ap length pays.called, length-append old.calls (Pay ∷ []))

-- where one was refused they are no more than there are payments
pub refused-calls : (costs : List ℕ) (old : Gauge) (dark : Dark) (new : Gauge) → PaysCosts costs old (Err dark) new → length new.calls ≤ length old.calls + length costs
refused-calls [] old dark new pays = absurd pays
refused-calls (c ∷ costs) old dark new (inl refused) = omega (arith, ap length refused.called, length-append old.calls (Pay ∷ []))
refused-calls (c ∷ costs) old dark new (inr (mid, pays, rest)) = omega (arith, refused-calls costs mid dark new rest, ap length pays.called, length-append old.calls (Pay ∷ []))

-- Payments each of which is for one action.
module _ (costs : Costs) where
  alone-cost : (a : Action) → total_cost costs (a ∷ []) ≡ cost_of costs a
  alone-cost a = omega (arith, total_cost-cons costs a [], total_cost-nil costs)

  pub alone-costs : (actions : List Action) → map (total_cost costs) (each_alone actions) ≡ map (cost_of costs) actions
  alone-costs [] = refl
  alone-costs (a ∷ actions) =
      ap (λ (c : ℕ). c ∷ map (total_cost costs) (each_alone actions)) (alone-cost a) ∙ ap (λ (cs : List ℕ). cost_of costs a ∷ cs) (alone-costs actions)

  pub alone-total : (actions : List Action) → sum_by (total_cost costs) (each_alone actions) ≡ total_cost costs actions
  alone-total [] = sym (total_cost-nil costs)
  alone-total (a ∷ actions) = omega (arith, sum_by-cons (total_cost costs) (a ∷ []) (each_alone actions), alone-cost a, alone-total actions, total_cost-cons costs a actions)

pub alone-entries : (actions : List Action) → sum_by entries_in (each_alone actions) ≡ entries_in actions
alone-entries [] = refl
alone-entries (a ∷ actions) = omega (arith, sum_by-cons entries_in (a ∷ []) (each_alone actions), entries-cons a [], alone-entries actions, entries-cons a actions)

pub alone-length : (actions : List Action) → length (each_alone actions) ≡ length actions
alone-length actions = length-map actions (λ action. action ∷ [])

-- the first of them
pub alone-first : (k : ℕ) (actions : List Action) → sum_by entries_in (take k (each_alone actions)) ≡ entries_in (take k actions)
alone-first k actions = ap (λ (xs : List (List Action)). sum_by entries_in xs) (take-map (λ action. action ∷ []) k actions) ∙ alone-entries (take k actions)

-- in either order the payments are those of all drains
pub order-total : (costs : Costs) (order : DrainOrder) (drains : List Action) → sum_by (total_cost costs) (payments_in order drains) ≡ total_cost costs drains
order-total costs in_turn drains = alone-total costs drains
order-total costs at_once drains = omega arith

pub order-entries : (order : DrainOrder) (drains : List Action) → sum_by entries_in (payments_in order drains) ≡ entries_in drains
order-entries in_turn drains = alone-entries drains
order-entries at_once drains = omega arith
