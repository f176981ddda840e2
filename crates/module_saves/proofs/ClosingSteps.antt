-- The steps of a closing save, as the gauge is asked for them: which actions are paid for.
use Rattle.std.proofs.Common.{◌*◌, Err}
use Rattle.std.specs.Prelude.{MatchResult}
use Rattle.channel_port.specs.Draining.{PaysInTurn}
use Rattle.energy_budget.specs.Actions.{page_actions, save_actions}
use Rattle.energy_budget.specs.Gauge.{PaysCost}
use Rattle.module_saves.specs.Closing.{ArraysAt, PaysUntil, payments}
use Rattle.slot_store.proofs.Standing.{below_or_not}
use Rattle.slot_store.proofs.StepsLeft.{ComesAt, comes_at, drop_later, left_later, reach_later}
use Rattle.slot_store.specs.Finishing.{Finish}
use Rattle.slot_store.specs.Repeating.{AsksForTries, GrantsTries}
use Rattle.slot_store.specs.Tries.{StepsBelow, goods, tried}
use Rattle.slot_store.specs.Slots.{IsCapacity}
use Rattle.slot_store.specs.Steps.{reach_of, step_later, steps_left}
use Rattle.slot_store.specs.declared.plan.Step.TheVariants.{Header, Open, SyncBody}
use Rattle.energy_budget.specs.declared.action.Action.TheVariants as actions
use Rattle.slot_store.specs.declared.source.BrokenOff.TheVariants as broken
use Rattle.module_saves.proofs.Common.{[], if◌then◌else◌, ℕ, ◌+◌, ◌-◌, ◌<◌, ◌∙◌, ◌∷◌, ◌≡◌, ◌≤◌, Action, Bool, ChannelsView, Close, Costs, Done, List, Ok, Page, Step, SyncClosed, SyncOpen, action_of, ap, arith, cost_of, drop, false, inl, inr, refl, step_after, subst, suc, sym, true}

-- the actions of the steps that are still to come, of so many pages
abbrev pub actions_left : ℕ → Step → List Action
actions_left n Close = save_actions n
actions_left n SyncClosed = actions.Sync ∷ page_actions n
actions_left n (Page k) = page_actions (n - k)
actions_left n Header = actions.WriteHeader ∷ actions.Sync ∷ actions.OpenGate ∷ actions.Sync ∷ []
actions_left n SyncBody = actions.Sync ∷ actions.OpenGate ∷ actions.Sync ∷ []
actions_left n Open = actions.OpenGate ∷ actions.Sync ∷ []
actions_left n SyncOpen = actions.Sync ∷ []
actions_left n Done = []

-- from this step on
module _ (costs : Costs) (lines : ℕ) (capacity : IsCapacity lines) (is : lines ≡ 64 * costs.pages) (first : Step) (reach : reach_of first ≤ lines) where
  abbrev pages : ℕ
  pages = costs.pages

  abbrev step : ℕ → Step
  step n = step_later lines first n

  abbrev pub actions_to_come : List Action
  actions_to_come = actions_left pages first

  actions_left-after : (next : Step) → reach_of next ≤ lines → 0 < steps_left lines next → actions_left pages next ≡ action_of next ∷ actions_left pages (step_after lines next)
  unfolding save_actions page_actions
  actions_left-after SyncClosed reach more = let none : pages ≡ pages - 0 = omega arith in ap (λ (j : ℕ). actions.Sync ∷ page_actions j) none
  actions_left-after (Page k) reach more =
      let here : actions_left pages (Page k) ≡ actions.WritePage ∷ page_actions (pages - (k + 1)) = ap page_actions (let one : pages - k ≡ suc (pages - (k + 1)) = omega (arith, is, reach) in one) in
      elim (below_or_not lines (64 * (k + 2))) [
        | inl last ↦
            let none : pages - (k + 1) ≡ 0 = omega (arith, last.1, is) in
            here ∙ ap (λ (j : ℕ). actions.WritePage ∷ page_actions j) none ∙ ap (λ (b : Bool). actions.WritePage ∷ actions_left pages (if b then Header else Page (k + 1))) (sym last.0)
        | inr further ↦ here ∙ ap (λ (b : Bool). actions.WritePage ∷ actions_left pages (if b then Header else Page (k + 1))) (sym further.0)
      ]
  actions_left-after Done reach more = absurd (omega (arith, more))
  actions_left-after next reach more = refl

  -- the actions behind the first steps, and the next one
  pub actions_behind : (n : ℕ) → n ≤ steps_left lines first → drop n actions_to_come ≡ actions_left pages (step n)
  actions_behind n most = drop_later lines capacity first reach (actions_left pages) action_of actions_left-after n most

  pub action_comes : (n : ℕ) → n < steps_left lines first → ComesAt actions_to_come n (action_of (step n)) (actions_left pages (step (suc n)))
  action_comes n more =
      let left : steps_left lines (step n) + n ≡ steps_left lines first = left_later lines capacity first reach n (omega (arith, more)) in
      comes_at actions_to_come n (action_of (step n)) (actions_left pages (step (suc n)))
      (actions_behind n (omega (arith, more)) ∙ actions_left-after (step n) (reach_later lines capacity first reach n) (omega (arith, left, more)))

  -- the actions from a later step on
  action_here : (n : ℕ) → n < steps_left lines first → actions_left pages (step n) ≡ action_of (step n) ∷ actions_left pages (step (suc n))
  action_here n more =
      let left : steps_left lines (step n) + n ≡ steps_left lines first = left_later lines capacity first reach n (omega (arith, more)) in
      actions_left-after (step n) (reach_later lines capacity first reach n) (omega (arith, left, more))

  -- each try is paid for
  paid_one : (old mid : ArraysAt) (next : Step) → old.channels.shape.costs ≡ costs → payments.asks old next (Ok tt) mid → PaysCost old.gauge (cost_of costs (action_of next)) (Ok tt) mid.gauge
  paid_one old mid next same asked = subst (λ (c : Costs). PaysCost old.gauge (cost_of c (action_of next)) (Ok tt) mid.gauge) same asked.0

  pub paid_tried : (tries : List Bool) (n : ℕ) (old new : ArraysAt) → StepsBelow (steps_left lines first) tries n → old.channels.shape.costs ≡ costs → GrantsTries payments.asks step tries n old new
      → PaysInTurn costs (tried (actions_left pages (step n)) tries) old.gauge (Ok tt) new.gauge × (new.channels ≡ old.channels)
  paid_tried [] n old new below same granted = (ap (λ (a : ArraysAt). a.gauge) granted, ap (λ (a : ArraysAt). a.channels) granted)
  paid_tried (true ∷ tries) n old new below same granted =
      let mid : ArraysAt = granted.0 in let asked = granted.1 in
      let rest = paid_tried tries (suc n) mid new below.1 (ap (λ (v : ChannelsView). v.shape.costs) asked.1 ∙ same) granted.2 in (
        subst (λ (xs : List Action). PaysInTurn costs (tried xs (true ∷ tries)) old.gauge (Ok tt) new.gauge) (sym (action_here n below.0)) (mid.gauge, paid_one old mid (step n) same asked, rest.0),
        rest.1 ∙ asked.1,
      )
  paid_tried (false ∷ tries) n old new below same granted =
      let mid : ArraysAt = granted.0 in let asked = granted.1 in
      let rest = paid_tried tries n mid new below.1 (ap (λ (v : ChannelsView). v.shape.costs) asked.1 ∙ same) granted.2 in
      let again : PaysInTurn costs (tried (action_of (step n) ∷ actions_left pages (step (suc n))) tries) mid.gauge (Ok tt) new.gauge =
      subst (λ (xs : List Action). PaysInTurn costs (tried xs tries) mid.gauge (Ok tt) new.gauge) (action_here n below.0) rest.0 in (
        subst (λ (xs : List Action). PaysInTurn costs (tried xs (false ∷ tries)) old.gauge (Ok tt) new.gauge) (sym (action_here n below.0)) (mid.gauge, paid_one old mid (step n) same asked, again),
        rest.1 ∙ asked.1,
      )

  -- and so is all that was asked for
  pub paid_until : (finish : Finish) (tries : List Bool) (old new : ArraysAt) → MatchResult finish (λ done. goods tries ≡ steps_left lines first) (λ why. goods tries < steps_left lines first)
      → StepsBelow (steps_left lines first) tries 0 → old.channels.shape.costs ≡ costs → AsksForTries payments.asks step finish tries old new → PaysUntil costs actions_to_come finish tries old.gauge new.gauge
  paid_until (Ok done) tries old new all below same asked = (paid_tried tries 0 old new below same asked).0
  paid_until (Err broken.Refused) tries old new less below same asked =
      let first = paid_tried tries 0 old asked.0 below same asked.2 in let refused = asked.3.0 in let coming : Action = action_of (step (goods tries)) in (
        coming,
        (action_comes (goods tries) less).here,
        record {
          mid = asked.0.gauge;
          pays = first.0;
          answer = refused.0;
          refused = subst (λ (c : Costs). PaysCost asked.0.gauge (cost_of c coming) (Err refused.0) new.gauge) (ap (λ (v : ChannelsView). v.shape.costs) first.1 ∙ same) refused.1;
        },
      )
  paid_until (Err broken.Fault) tries old new less below same asked = (paid_tried tries 0 old new below same asked).0
