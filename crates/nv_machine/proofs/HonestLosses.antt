-- An honest gauge that backs the writes is enough for a closing save.
use Rattle.std.specs.List.{flat_map}
use Rattle.std.specs.Prelude.{cond, map, not, option_map, sum_by}
use Rattle.std.proofs.Math.Nat.{mul-le-mul_left}
use Rattle.std.proofs.lemmas.List.Sums.{sum-map, sum_by-append, sum_by-cons}
use Rattle.std.proofs.lemmas.Option.{get_or_from_slice_get, same_Some, slice_get-map}
use Rattle.save_device.specs.Calls.{called, faults_in}
use Rattle.save_device.specs.declared.calls.Call.{Call}
use Rattle.save_device.specs.declared.calls.CallKind.{CallKind}
use Rattle.slot_store.specs.Tries.{calls_tried, fails, goods, tried}
use Rattle.energy_budget.proofs.Rising.{reserve-le}
use Rattle.energy_budget.proofs.Totals.{closing-cost, repeats-cost, total_cost-append, total_cost-cons, total_cost-nil}
use Rattle.energy_budget.specs.Actions.{closing_actions, drain_actions, save_actions}
use Rattle.energy_budget.specs.CostNumbers.{repeat_cost_of}
use Rattle.energy_budget.specs.Sums.{reserve}
use Rattle.channel_port.proofs.Entries.{alone-total, order-total}
use Rattle.channel_port.specs.Draining.{each_alone, payments_in}
use Rattle.nv_machine.specs.Losses.{ComesNext, drains_of, save_calls, steps_of}
use Rattle.std.proofs.Common.{◌*◌}
use Rattle.nv_machine.proofs.Common.{Bool, List, [], ap, arith, false, inl, inr, length, refl, suc, sym, take, true, ℕ, ◌++◌, ◌+◌, ◌<◌, ◌∙◌, ◌∷◌, ◌≡◌, ◌≤◌, DrainOrder, None, Option, Some, slice_get, slice_get_within, sum, is_backed, Loss, cost_of, total_cost, backing_level, Action, Costs, pending_each, IsBacked, IsHonest, StaysBacked, ticks_left, EndsDark, EndsInFault, LoseStep, Machine, Setup, World, pending_of, Reply}
use Rattle.nv_machine.proofs.Backing.{IsKnown, falls, not_backed}
use Rattle.nv_machine.proofs.Payments.{IsPaid, paid_of, cost_until, length-pending_each, sum_pending_each}

-- the actions of a closing save: its drains and its steps
closing-parts : (costs : Costs) (pending : List ℕ) → total_cost costs (closing_actions costs.pages pending) ≡ total_cost costs (flat_map drain_actions pending) + total_cost costs (save_actions costs.pages)
unfolding closing_actions
closing-parts costs pending = total_cost-append costs (flat_map drain_actions pending) (save_actions costs.pages)

-- a backing has the reserve, and one leak
has_reserve : (costs : Costs) (k ticks : ℕ) → reserve costs k + costs.numbers.leak ≤ backing_level costs k ticks
unfolding backing_level
has_reserve costs k ticks = omega arith

-- Steps as often as they were tried, and the next one: they cost no more than all steps and the dearest one for each that failed.
module _ (costs : Costs) where
  abbrev most : ℕ
  most = repeat_cost_of costs.numbers

  abbrev AreNoDearer : List Action → Type 0
  AreNoDearer actions = (k : ℕ) (a : Action) → slice_get actions k ≡ Some a → cost_of costs a ≤ most

  next_of_actions : (actions : List Action) (k : ℕ) (coming : Action) → slice_get actions k ≡ Some coming → total_cost costs (take k actions) + cost_of costs coming ≤ total_cost costs actions
  unfolding total_cost
  next_of_actions actions k coming is = cost_until (cost_of costs) actions k coming is

  cost_tried : (actions : List Action) (tries : List Bool) (coming : Action) → AreNoDearer actions → slice_get actions (goods tries) ≡ Some coming
      → total_cost costs (tried actions tries) + cost_of costs coming ≤ total_cost costs actions + fails tries * most
  cost_tried actions [] coming each is =
      let nothing : total_cost costs (take 0 actions) ≡ 0 = total_cost-nil costs in let none : total_cost costs (tried actions []) ≡ 0 = total_cost-nil costs in
      omega (arith, next_of_actions actions 0 coming is, nothing, none)
  cost_tried [] (good ∷ tries) coming each is = absurd (let inside : goods (good ∷ tries) < 0 = slice_get_within [] (goods (good ∷ tries)) coming is in omega (arith, inside))
  cost_tried (a ∷ actions) (true ∷ tries) coming each is =
      let rest = cost_tried actions tries coming (λ k b at. each (suc k) b at) is in omega (arith, rest, total_cost-cons costs a actions, total_cost-cons costs a (tried actions tries))
  cost_tried (a ∷ actions) (false ∷ tries) coming each is =
      let rest = cost_tried (a ∷ actions) tries coming each is in let first : cost_of costs a ≤ most = each 0 a refl in
      omega (arith, rest, first, total_cost-cons costs a (tried (a ∷ actions) tries))

  no_dearer : (pages : ℕ) → AreNoDearer (save_actions pages)
  no_dearer pages k a is =
      let inside : k < length (save_actions pages) = slice_get_within (save_actions pages) k a is in
      rw (get_or_from_slice_get (save_actions pages) k a a is) at (repeats-cost costs pages k a inside)

-- how many of the calls failed, where each try made one
faults_tried : (kinds : List CallKind) (tries : List Bool) → goods tries < length kinds → faults_in (calls_tried kinds tries) ≡ fails tries
faults_tried kinds [] more = refl
faults_tried [] (good ∷ tries) more = absurd (omega (arith, more))
faults_tried (kind ∷ kinds) (true ∷ tries) more =
    let rest = faults_tried kinds tries (omega (arith, more)) in omega (arith, rest, sum_by-cons (λ (call : Call). cond (not call.is_good) 1 0) (called kind true) (calls_tried kinds tries))
faults_tried (kind ∷ kinds) (false ∷ tries) more =
    let rest = faults_tried (kind ∷ kinds) tries more in omega (arith, rest, sum_by-cons (λ (call : Call). cond (not call.is_good) 1 0) (called kind false) (calls_tried (kind ∷ kinds) tries))

module _ (setup : Setup) (old new : World) (known : IsKnown setup old.machine) (backed : IsBacked setup old.machine old.gauge) where
  abbrev m : Machine
  m = old.machine

  abbrev costs : Costs
  costs = setup.shape.costs

  abbrev drains : List Action
  drains = drains_of setup m

  abbrev steps : List Action
  steps = steps_of setup

  abbrev dearest : ℕ
  dearest = repeat_cost_of costs.numbers

  -- the actions of the closing save cost no more than the reserve, with the steps that may be made again
  closing_fits : total_cost costs drains + total_cost costs steps + costs.retries * dearest ≤ reserve costs (pending_of m)
  closing_fits =
      let each = pending_each setup.shape.channels m.waits.writes in let size : length each ≡ costs.channels = length-pending_each setup.shape.channels m.waits.writes ∙ known.shape.channels in
      omega (arith, closing-parts costs each, closing-cost costs each size, reserve-le costs (sum each) (pending_of m) (sum_pending_each setup.shape.channels m.waits.writes))

  abbrev paid_cost : List (List Action) → ℕ
  paid_cost paid = sum_by (total_cost costs) paid

  -- a step's payment is for it alone
  step_alone : (k : ℕ) (coming : List Action) → slice_get (each_alone steps) k ≡ Some coming → (a : Action) × (slice_get steps k ≡ Some a) × (total_cost costs coming ≡ cost_of costs a)
  step_alone k coming is = by_case (slice_get steps k) refl (sym (slice_get-map (λ (a : Action). a ∷ []) steps k) ∙ is)
    where
      by_case : (o : Option Action) → slice_get steps k ≡ o → option_map (λ (a : Action). a ∷ []) o ≡ Some coming → (a : Action) × (slice_get steps k ≡ Some a) × (total_cost costs coming ≡ cost_of costs a)
      by_case None at none = absurd cc
      by_case (Some a) at same =
          let one : total_cost costs coming ≡ total_cost costs (a ∷ []) = ap (total_cost costs) (sym (same_Some (a ∷ []) coming same)) in
          (a, at, omega (arith, one, total_cost-cons costs a [], total_cost-nil costs))

  module _ (order : DrainOrder) where
    abbrev payments : List (List Action)
    payments = payments_in order drains

    -- what was paid for and the next payment cost no more
    paid_fits : (tries : List Bool) (paid : List (List Action)) (coming : List Action) → fails tries ≤ costs.retries → ComesNext order setup m tries paid coming
        → paid_cost paid + total_cost costs coming ≤ reserve costs (pending_of m)
    paid_fits tries paid coming few (inl in_drains) =
        omega (arith, ap paid_cost in_drains.1.1, cost_until (total_cost costs) payments in_drains.1.0 coming in_drains.1.2, order-total costs order drains, closing_fits)
    paid_fits tries paid coming few (inr behind) =
        let more : dearest * fails tries ≤ dearest * costs.retries = mul-le-mul_left dearest few in
        let next = step_alone (goods tries) coming behind.1 in
        omega (
          arith,
          ap paid_cost behind.0,
          sum_by-append (total_cost costs) payments (each_alone (tried steps tries)),
          order-total costs order drains,
          alone-total costs (tried steps tries),
          cost_tried costs steps tries next.0 (no_dearer costs costs.pages) next.1,
          next.2,
          more,
          closing_fits,
        )

  -- no payment is refused
  never_dark : (order : DrainOrder) → EndsDark order setup old new → IsHonest setup old (Reply.Lose Loss.Dark) new → ⊥
  never_dark order d honest =
      let ticked = d.pays.ticked in let costs_paid : List ℕ = map (total_cost costs) d.paid in
      let paid : IsPaid costs_paid ticked d.mid = paid_of costs_paid ticked d.mid d.pays.pays in
      let faults : (ticked.faults ≡ old.gauge.faults) × (d.mid.faults ≡ ticked.faults) × (new.gauge.faults ≡ d.mid.faults) = omega (arith, d.pays.reads.counted, paid.counted, d.refused.counted, honest.gauge.faultless) in
      let fell = falls costs.numbers.leak old.gauge new.machine.reading ticked d.pays.reads (record { bounded = honest.gauge.bounded; faultless = faults.0 }) in
      let short : d.mid.level < total_cost costs d.coming = (d.refused.breach.0 faults.2).refused refl in
      omega (arith, backed.bound d.closes.backed, has_reserve costs (pending_of m) (ticks_left setup m), fell, short, paid.fell faults.1, sum-map (total_cost costs) d.paid, paid_fits order d.tries d.paid d.coming d.few d.comes)

  -- the device doesn't fail that often
  never_fault : (order : DrainOrder) → EndsInFault order setup old new → IsHonest setup old (Reply.Lose Loss.Fault) new → ⊥
  never_fault order d honest =
      let kinds : List CallKind = save_calls setup m in
      let inside : goods d.tries < length kinds = slice_get_within kinds (goods d.tries) d.failed d.comes in
      let counted : faults_in (old.device.calls ++ calls_tried kinds d.tries) ≡ faults_in old.device.calls + faults_in (calls_tried kinds d.tries) =
      sum_by-append (λ (call : Call). cond (not call.is_good) 1 0) old.device.calls (calls_tried kinds d.tries) in
      omega (arith, ap faults_in d.calls, counted, faults_tried kinds d.tries inside, d.few, honest.spared)

  pub backs_lose : (order : DrainOrder) (reply : Loss) → LoseStep order setup reply old new → IsHonest setup old (Reply.Lose reply) new → StaysBacked setup old (Reply.Lose reply) new
  backs_lose order Loss.Closed done honest = let off : is_backed m.mode ≡ false = grind arith in record { backed = rw done.1 backed; saves = λ on. cc }
  backs_lose order Loss.Unsaved done honest =
      let off : is_backed m.mode ≡ false = ap is_backed done.0 in record { backed = not_backed setup new.machine new.gauge (ap (λ (w : World). is_backed w.machine.mode) done.1); saves = λ on. cc }
  backs_lose order (Loss.Saved generation count) done honest = record { backed = not_backed setup new.machine new.gauge (ap is_backed done.mode); saves = λ on. cc (done.generation_is, done.count_is) }
  backs_lose order Loss.Dark done honest = absurd (never_dark order done honest)
  backs_lose order Loss.Fault done honest = absurd (never_fault order done honest)
