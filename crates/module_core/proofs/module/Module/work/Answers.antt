use Rattle.nv_machine.specs.declared.events.Event.TheVariants as events
use Rattle.nv_machine.specs.declared.events.Reply.TheVariants as replies
use Rattle.module_core.proofs.Common.{ℕ, ◌∙◌, ◌≡◌, ChannelsView, ForSome, Option, Waits, WaitsFrom, all_of, ap, assembly, false, has_ended, hold_of, point_of, refl, rules, setup_of, subst, sym, view_of}
use Rattle.module_core.proofs.Applying.{unmoved, waited, works_where_due}
use Rattle.module_core.proofs.Waits.{worked_below, worked_held, worked_step}
use Rattle.module_core.proofs.module.Module.work.Goals as goal

pub invariant_of-self-clause-below : goal.invariant_of-self-clause-below
invariant_of-self-clause-below g c =
    let L = g.K.ChannelPort in let e = c.work.ensures in
    worked_below c.args.self.now.front.accepted c.args.channel c.work.result (view_of L c.args.self.now.channels) (view_of L c.work.new.self) e.served e.stays c.args.self.now.below

pub returns-clause-answers : goal.returns-clause-answers
returns-clause-answers g c = λ device gauge.
    let L = g.K.ChannelPort in let e = c.work.ensures in let old = c.args.self.now in let channel : ℕ = c.args.channel in let done = c.work.result in
    let before : ChannelsView = view_of L old.channels in let after : ChannelsView = view_of L c.work.new.self in
    waited L (events.Work channel) (replies.Work done) old _ device gauge
    (record { numbers = record { terms = refl; accepted = refl; persisted = refl }; mode = refl; saves = refl; shape = ap (λ (v : ChannelsView). v.shape) e.rest }) refl
    (ap (λ (v : ChannelsView). v.hold) e.rest) e.keeps refl refl e.issued (λ m h.
    let runs : has_ended m.mode ≡ false = ap has_ended (sym h.front.mode) ∙ (let off : has_ended old.front.mode ≡ false = cc in off) in
    let held : ForSome before.hold (λ k. WaitsFrom k (all_of m) before.waits.writes) =
    subst (λ (o : Option ℕ). ForSome o (λ k. WaitsFrom k (all_of m) before.waits.writes)) (sym h.carried.hold)
    (subst (λ (w : Waits). ForSome (hold_of m.store.saving) (λ k. WaitsFrom k (all_of m) w.writes)) (sym h.carried.waits) h.carried.held) in (
      (refl, worked_step (setup_of L old) channel done m before after runs h.carried.waits h.carried.hold e.served e.stays),
      subst (λ (o : Option ℕ). ForSome o (λ k. WaitsFrom k (all_of m) after.waits.writes)) h.carried.hold (worked_held channel (all_of m) done before after e.served e.stays held),
      works_where_due L channel done (point_of L (assembly old device gauge) m) e.next,
    ))

pub returns-then-has_ended-clause-answers : goal.returns-then-has_ended-clause-answers
returns-then-has_ended-clause-answers g c = search (rules, unmoved)
