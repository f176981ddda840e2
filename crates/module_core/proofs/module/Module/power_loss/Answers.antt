use Rattle.std.proofs.lemmas.List.Elements.{All-drop}
use Rattle.channel_port.specs.Draining.{in_turn}
use Rattle.channel_port.specs.Waits.{AllBelow}
use Rattle.channel_set.specs.Draining.{DrainsEach}
use Rattle.module_saves.specs.Saving.{IsOfLines}
use Rattle.module_core.proofs.WhereDrained.{on_ok, where_drained}
use Rattle.module_core.proofs.Common.{◌<◌, ◌∙◌, ◌≡◌, ChannelsView, Shape, Waiting, ap, assembly, false, refl, subst, sym, true, view_of}
use Rattle.module_core.proofs.module.Module.power_loss.Goals as goal

pub returns-in-Some-clause-answers : goal.returns-in-Some-clause-answers
returns-in-Some-clause-answers g c = λ m stands. ((c.in-Some.ensures.over in_turn (g.D.SaveDevice.state c.args.device.now)).each m stands).answers

pub returns-in-Some-clause-loses : goal.returns-in-Some-clause-loses
returns-in-Some-clause-loses g c = λ m stands. ((c.in-Some.ensures.over in_turn (g.D.SaveDevice.state c.args.device.now)).each m stands).loses

pub returns-in-Some-clause-covered : goal.returns-in-Some-clause-covered
returns-in-Some-clause-covered g c = (c.in-Some.ensures.over in_turn (g.D.SaveDevice.state c.args.device.now)).covered

pub returns-in-Some-clause-honest : goal.returns-in-Some-clause-honest
returns-in-Some-clause-honest g c = (c.in-Some.ensures.over in_turn (g.D.SaveDevice.state c.args.device.now)).honest

pub returns-in-Some-clause-drained : goal.returns-in-Some-clause-drained
returns-in-Some-clause-drained g c = where_drained c.in-Some.lost (λ bad. absurd bad) c.in-Some.ensures.undrained

pub invariant_of-self : goal.invariant_of-self
invariant_of-self g c =
    let begun = c.begin_loss.new.self in let drain = c.drain-drained.ensures.drains in
    record {
      below = subst (AllBelow begun.front.accepted) (sym drain.takes.takes.writes) (All-drop (λ (w : Waiting). w.number < begun.front.accepted) _ (view_of g.K.ChannelPort begun.channels).waits.writes begun.below);
      mains = λ on. let both : true ≡ false = sym c.in_default.ensures.ended ∙ on in absurd (let bad : ⊥ = cc in bad);
      running = subst (λ (s : Shape). IsOfLines s.lines begun.front.saves.saving) (sym (ap (λ (v : ChannelsView). v.shape) drain.rest)) begun.running;
    }

pub returns-clause-answers : goal.returns-clause-answers
returns-clause-answers g c =
    let D = g.D.SaveDevice in let E = g.E.Energy in let drain = c.drain-drained.ensures in
    let told = c.conclude.ensures.concludes in_turn (assembly c.args.self.now (D.state c.args.device.now) (E.gauge c.args.energy.now)) (assembly c.begin_loss.new.self (D.state c.args.device.now) (E.gauge c.begin_loss.new.energy)) (c.in_default.ensures.begins (D.state c.args.device.now))
    (record { drains = drain.drains; each = drain.each; front = refl; keeps = drain.keeps; device = refl }) drain.covers in
    λ m stands. (told.each m stands).answers

pub returns-clause-loses : goal.returns-clause-loses
returns-clause-loses g c =
    let D = g.D.SaveDevice in let E = g.E.Energy in let drain = c.drain-drained.ensures in
    let told = c.conclude.ensures.concludes in_turn (assembly c.args.self.now (D.state c.args.device.now) (E.gauge c.args.energy.now)) (assembly c.begin_loss.new.self (D.state c.args.device.now) (E.gauge c.begin_loss.new.energy)) (c.in_default.ensures.begins (D.state c.args.device.now))
    (record { drains = drain.drains; each = drain.each; front = refl; keeps = drain.keeps; device = refl }) drain.covers in
    λ m stands. (told.each m stands).loses

pub returns-clause-covered : goal.returns-clause-covered
returns-clause-covered g c =
    let D = g.D.SaveDevice in let E = g.E.Energy in let drain = c.drain-drained.ensures in
    let told = c.conclude.ensures.concludes in_turn (assembly c.args.self.now (D.state c.args.device.now) (E.gauge c.args.energy.now)) (assembly c.begin_loss.new.self (D.state c.args.device.now) (E.gauge c.begin_loss.new.energy)) (c.in_default.ensures.begins (D.state c.args.device.now))
    (record { drains = drain.drains; each = drain.each; front = refl; keeps = drain.keeps; device = refl }) drain.covers in
    told.covered

pub returns-clause-honest : goal.returns-clause-honest
returns-clause-honest g c =
    let D = g.D.SaveDevice in let E = g.E.Energy in let drain = c.drain-drained.ensures in
    let told = c.conclude.ensures.concludes in_turn (assembly c.args.self.now (D.state c.args.device.now) (E.gauge c.args.energy.now)) (assembly c.begin_loss.new.self (D.state c.args.device.now) (E.gauge c.begin_loss.new.energy)) (c.in_default.ensures.begins (D.state c.args.device.now))
    (record { drains = drain.drains; each = drain.each; front = refl; keeps = drain.keeps; device = refl }) drain.covers in
    told.honest

pub returns-clause-setup : goal.returns-clause-setup
returns-clause-setup g c =
    let D = g.D.SaveDevice in let E = g.E.Energy in let drain = c.drain-drained.ensures in
    let told = c.conclude.ensures.concludes in_turn (assembly c.args.self.now (D.state c.args.device.now) (E.gauge c.args.energy.now)) (assembly c.begin_loss.new.self (D.state c.args.device.now) (E.gauge c.begin_loss.new.energy)) (c.in_default.ensures.begins (D.state c.args.device.now))
    (record { drains = drain.drains; each = drain.each; front = refl; keeps = drain.keeps; device = refl }) drain.covers in
    told.setup

pub returns-clause-drained : goal.returns-clause-drained
returns-clause-drained g c =
    let drain = c.drain-drained.ensures in let begins = c.in_default.ensures.begins (g.D.SaveDevice.state c.args.device.now) in
    where_drained c.conclude.result
    (λ paid. record {
      begun = c.begin_loss.new.self.channels;
      ends = begins.ends.channels;
      backup = c.in_default.ensures.backup;
      each = subst (DrainsEach g.K.ChannelPort c.begin_loss.new.self.channels) (sym c.conclude.ensures.channels) (on_ok _ paid drain.each);
    })
    c.conclude.ensures.paid
