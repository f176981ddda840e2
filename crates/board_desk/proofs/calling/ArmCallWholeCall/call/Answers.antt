use Rattle.std.proofs.Common.{refl}
use Rattle.nv_machine.specs.declared.events.Event.TheVariants as events
use Rattle.nv_machine.specs.declared.events.Reply.TheVariants as replies
use Rattle.board_hosts.proofs.Holding.{has_device}
use Rattle.board_desk.proofs.Called.{goes_by_event}
use Rattle.board_desk.proofs.Quiet.{issues_none}
use Rattle.board_desk.proofs.calling.ArmCallWholeCall.call.Goals as goal

pub arm-requires : goal.arm-requires
arm-requires g c = has_device g.K.ChannelPort g.D.SaveDevice g.E.Energy c.args.it.now c.requires

pub returns-clause-goes : goal.returns-clause-goes
returns-clause-goes g c =
    let it = c.args.it.now in
    goes_by_event g.K.ChannelPort g.D.SaveDevice g.E.Energy events.Arm (replies.Arm c.arm.result) it (record it { running = c.arm.new.self; device = c.arm.new.device; energy = c.arm.new.energy }) refl c.arm.ensures.answers c.arm.ensures.stored.cut refl

pub returns-clause-issues : goal.returns-clause-issues
returns-clause-issues g c =
    let it = c.args.it.now in
    issues_none g.K.ChannelPort g.D.SaveDevice g.E.Energy it (record it { running = c.arm.new.self; device = c.arm.new.device; energy = c.arm.new.energy }) c.requires events.Arm (replies.Arm c.arm.result) c.arm.ensures.answers (λ i. i)
