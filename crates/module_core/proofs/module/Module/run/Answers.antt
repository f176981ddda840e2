use Rattle.std.proofs.lemmas.List.{take_all}
use Rattle.std.specs.Prelude.{take}
use Rattle.slot_store.specs.Slots.{HasSize}
use Rattle.module_core.specs.Cutting.{AnswersCut}
use Rattle.module_core.specs.Stands.{HasDevice}
use Rattle.module_core.proofs.Common.{[], ℕ, ◌+◌, ◌∙◌, ◌∷◌, ◌≡◌, Event, List, Reply, Setup, ap, arith, assembly, length, length-append, refl, rules, subst, sym}
use Rattle.module_core.proofs.CuttingRuns.{answers_uncut, first_cut, one_more_cut}
use Rattle.module_core.proofs.HonestCalls.{honest_calls}
use Rattle.module_core.proofs.module.Module.run.Goals as goal

pub loop-event-init : goal.loop-event-init
loop-event-init g c =
    let L = g.K.ChannelPort in let device = g.D.SaveDevice.state c.args.device.now in let cut = c.cut-first.ensures in
    let first : AnswersCut L [] [] (assembly c.args.self.now device (g.E.Energy.gauge c.args.energy.now)) (assembly c.cut-first.new.self device (g.E.Energy.gauge c.args.energy.now)) =
    first_cut L c.args.self.now c.cut-first.new.self device (g.E.Energy.gauge c.args.energy.now) cut.cuts in
    let size : HasDevice L c.cut-first.new.self device = subst (λ (s : Setup). HasSize s.shape.lines device) (sym cut.setup) c.requires.size in
    let whole : c.cut-first.new.self.front.terms.cut ≡ c.cut-first.new.self.front.saved = cut.to ∙ sym cut.cuts.saved in
    record { size = size; setup = cut.setup; count = search rules; room = search rules; cut = whole; answers = subst (λ (rs : List Reply). AnswersCut L [] rs (assembly c.args.self.now device (g.E.Energy.gauge c.args.energy.now)) (assembly c.cut-first.new.self device (g.E.Energy.gauge c.args.energy.now))) (search rules) first }

pub loop-event-preserved : goal.loop-event-preserved
loop-event-preserved g c =
    let L = g.K.ChannelPort in let S = g.D.SaveDevice in let E = g.E.Energy in let inv = c.loop-event.invariant in
    let old = assembly c.args.self.now (S.state c.args.device.now) (E.gauge c.args.energy.now) in let mid = assembly c.loop-event.self (S.state c.loop-event.device) (E.gauge c.loop-event.energy) in
    let applied = assembly c.apply.new.self (S.state c.apply.new.device) (E.gauge c.apply.new.energy) in let cut = c.cut-gone.ensures in
    let new = assembly c.cut-gone.new.self (S.state c.apply.new.device) (E.gauge c.apply.new.energy) in
    let events : List Event = c.args.events.now in let i : ℕ = c.loop-event.event-index in let reply : Reply = c.apply.result in
    record {
      size = subst (λ (s : Setup). HasSize s.shape.lines (S.state c.apply.new.device)) (sym cut.setup) c.apply.ensures.size;
      setup = cut.setup ∙ c.apply.ensures.setup ∙ inv.setup;
      count = ap length c.push_reserved.ensures.items ∙ length-append c.loop-event.replies.items (reply ∷ []) ∙ ap (λ (n : ℕ). n + 1) inv.count;
      room = omega (arith, inv.room, c.push_reserved.ensures.capacity);
      cut = cut.to ∙ sym cut.cuts.saved;
      answers = subst (λ (replies : List Reply). AnswersCut L (take (i + 1) events) replies old new) (sym c.push_reserved.ensures.items)
          (one_more_cut L events i _ c.loop-event.replies.items reply old mid applied new c.loop-event-test.true inv.setup inv.cut (c.apply.ensures.setup ∙ inv.setup) inv.answers c.apply.ensures.answers refl cut.cuts);
    }

pub returns-clause-cuts : goal.returns-clause-cuts
returns-clause-cuts g c =
    let S = g.D.SaveDevice in let E = g.E.Energy in
    let old = assembly c.args.self.now (S.state c.args.device.now) (E.gauge c.args.energy.now) in let new = assembly c.loop-event.self (S.state c.loop-event.device) (E.gauge c.loop-event.energy) in
    subst (λ (es : List Event). AnswersCut g.K.ChannelPort es c.loop-event.replies.items old new) (take_all c.loop-event.event-index c.args.events.now c.loop-event-test.false) c.loop-event.invariant.answers

pub returns-clause-answers : goal.returns-clause-answers
returns-clause-answers g c =
    let S = g.D.SaveDevice in let E = g.E.Energy in
    let old = assembly c.args.self.now (S.state c.args.device.now) (E.gauge c.args.energy.now) in let new = assembly c.loop-event.self (S.state c.loop-event.device) (E.gauge c.loop-event.energy) in
    answers_uncut g.K.ChannelPort c.args.events.now c.loop-event.replies.items old new (returns-clause-cuts g c)

pub returns-clause-honest : goal.returns-clause-honest
returns-clause-honest g c =
    let S = g.D.SaveDevice in let E = g.E.Energy in
    let old = assembly c.args.self.now (S.state c.args.device.now) (E.gauge c.args.energy.now) in let new = assembly c.loop-event.self (S.state c.loop-event.device) (E.gauge c.loop-event.energy) in
    honest_calls g.K.ChannelPort c.args.events.now c.loop-event.replies.items old new (record { answers = returns-clause-answers g c; setup = c.loop-event.invariant.setup })
