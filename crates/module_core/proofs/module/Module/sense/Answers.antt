use Rattle.std.specs.Prelude.{MatchBool}
use Rattle.arm_state.specs.Modes.{reads_gauge}
use Rattle.nv_machine.specs.Moves.{sensed}
use Rattle.nv_machine.specs.declared.events.Event.TheVariants as events
use Rattle.nv_machine.specs.declared.events.Reply.TheVariants as replies
use Rattle.module_core.proofs.Common.{ℕ, ◌∙◌, ◌≡◌, Bool, Machine, ReadsLevel, Setup, ap, read_as, refl, rules, setup_of, subst, sym, true, GaugeCall}
use Rattle.module_core.proofs.Applying.{alone, unmoved}
use Rattle.module_core.proofs.module.Module.sense.Goals as goal

pub returns-clause-answers : goal.returns-clause-answers
returns-clause-answers g c = λ device.
    alone g.K.ChannelPort events.Sense (replies.Sense c.sense-level.result) c.args.self.now c.take_reading-turned.new.self device (g.E.Energy.gauge c.args.energy.now) (g.E.Energy.gauge c.sense-level.new.self) c.take_reading-turned.ensures.setup (λ m h.
    let setup : Setup = setup_of g.K.ChannelPort c.args.self.now in let level : ℕ = c.sense-level.result in let before = g.E.Energy.gauge c.args.energy.now in let after = g.E.Energy.gauge c.sense-level.new.self in
    let t = c.take_reading-turned.ensures.step m h in let n : Machine = t.later in
    let reads : reads_gauge m.mode ≡ true = ap reads_gauge (sym h.front.mode) ∙ (let e : reads_gauge c.args.self.now.front.mode ≡ true = cc in e) in
    record { later = n; step = (refl, subst (λ (b : Bool). MatchBool b (ReadsLevel GaugeCall.Sense before level after × (n ≡ sensed setup (read_as level m))) ((level ≡ m.reading) × (n ≡ m) × (after ≡ before))) (sym reads) (c.sense-level.ensures, t.step.1)); matches = t.matches; moves = t.moves }) c.take_reading-turned.ensures.saved refl (λ m h. tt) c.take_reading-turned.ensures.issued

pub returns-then-not-reads_gauge-clause-answers : goal.returns-then-not-reads_gauge-clause-answers
returns-then-not-reads_gauge-clause-answers g c = search (rules, unmoved)
