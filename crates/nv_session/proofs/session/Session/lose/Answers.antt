use Rattle.std.proofs.Common.{◌∙◌, refl, subst, sym}
use Rattle.nv_session.specs.Sessions.{moment_in}
use Rattle.nv_session.proofs.Common.{Assembly, IsOneEvent, Setup, assembly, device_state, meter_gauge, session_at}
use Rattle.slot_store.specs.Slots.{HasSize}
use Rattle.nv_machine.specs.declared.events.Event.TheVariants as events
use Rattle.nv_machine.specs.declared.events.Reply.TheVariants as replies
use Rattle.nv_session.proofs.Coming.{one_event}
use Rattle.nv_session.proofs.Cutting.{comes_cut, now_cut}
use Rattle.nv_session.proofs.Going.{goes_on_by, lives_on}
use Rattle.nv_session.proofs.session.Session.lose.Goals as goal

pub returns-in-Some-clause-comes : goal.returns-in-Some-clause-comes
returns-in-Some-clause-comes g c =
    let L = g.K.ChannelPort in let it = c.args.self.now in let life = c.cut-cut_by_loss.new.self in let lost = c.power_loss-lost in let reply = replies.Lose lost.result in
    let old : Assembly L = assembly c.in-Some.life (device_state it.device) (meter_gauge it.gauge) in
    let mid : Assembly L = assembly lost.new.self (device_state lost.new.device) (meter_gauge lost.new.energy) in
    goes_on_by L (λ setup. IsOneEvent events.Lose reply) (moment_in it) (session_at _ mid.device mid.gauge) old.it life c.in-Some.is refl
    (comes_cut L (IsOneEvent events.Lose reply) old mid life (λ es rs m n cut told. told) lost.ensures.setup (one_event L events.Lose reply old mid lost.ensures.answers) c.cut-cut_by_loss.ensures.cuts)
    (c.cut-cut_by_loss.ensures.setup ∙ lost.ensures.setup)

pub invariant_of-self-clause-living : goal.invariant_of-self-clause-living
invariant_of-self-clause-living g c =
    let L = g.K.ChannelPort in let it = c.args.self.now in let life = c.cut-cut_by_loss.new.self in let lost = c.power_loss-lost in let reply = replies.Lose lost.result in
    let old : Assembly L = assembly c.in-Some.life (device_state it.device) (meter_gauge it.gauge) in
    let mid : Assembly L = assembly lost.new.self (device_state lost.new.device) (meter_gauge lost.new.energy) in
    lives_on L it.profile (moment_in it) old.it c.in-Some.is it.living (IsOneEvent events.Lose reply) (assembly life mid.device mid.gauge)
    (comes_cut L (IsOneEvent events.Lose reply) old mid life (λ es rs m n cut told. told) lost.ensures.setup (one_event L events.Lose reply old mid lost.ensures.answers) c.cut-cut_by_loss.ensures.cuts)
    (c.cut-cut_by_loss.ensures.setup ∙ lost.ensures.setup)
    (now_cut L mid.it life c.cut-cut_by_loss.ensures.cuts c.cut-cut_by_loss.ensures.to)
    (subst (λ (s : Setup). HasSize s.shape.lines mid.device) (sym c.cut-cut_by_loss.ensures.setup) lost.ensures.size)
