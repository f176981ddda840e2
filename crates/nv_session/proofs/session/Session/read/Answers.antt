use Rattle.std.proofs.Common.{refl}
use Rattle.nv_session.specs.Sessions.{moment_in}
use Rattle.nv_session.proofs.Common.{ReadsLine, assembly, device_state, meter_gauge, setup_of}
use Rattle.nv_session.proofs.Going.{goes_on_alone, lives_on_alone, still_cut}
use Rattle.nv_session.proofs.session.Session.read.Goals as goal

pub returns-in-Some-clause-comes : goal.returns-in-Some-clause-comes
returns-in-Some-clause-comes g c =
    goes_on_alone g.K.ChannelPort (λ setup. ReadsLine setup c.args.line c.read.result) c.args.self.now.life c.in-Some.life c.read.new.running c.in-Some.is c.read.ensures.comes c.read.ensures.setup

pub invariant_of-self-clause-living : goal.invariant_of-self-clause-living
invariant_of-self-clause-living g c =
    let L = g.K.ChannelPort in let it = c.args.self.now in let life = c.in-Some.life in let device = device_state it.device in let gauge = meter_gauge it.gauge in
    lives_on_alone L it.profile (moment_in it) life c.in-Some.is it.living (ReadsLine (setup_of L life) c.args.line c.read.result) (assembly c.read.new.running device gauge)
    (c.read.ensures.comes device gauge) c.read.ensures.setup
    (still_cut L it.profile (moment_in it) life c.in-Some.is it.living c.read.new.running c.read.ensures.stored.cut c.read.ensures.stored.saved) refl
