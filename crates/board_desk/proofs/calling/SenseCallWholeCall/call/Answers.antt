use Rattle.std.proofs.Common.{refl}
use Rattle.nv_machine.specs.declared.events.Event.TheVariants as events
use Rattle.nv_machine.specs.declared.events.Reply.TheVariants as replies
use Rattle.board_desk.proofs.Called.{goes_by_event}
use Rattle.board_desk.proofs.Quiet.{issues_none}
use Rattle.board_desk.proofs.calling.SenseCallWholeCall.call.Goals as goal

pub returns-clause-goes : goal.returns-clause-goes
returns-clause-goes g c =
    let it = c.args.it.now in
    goes_by_event g.K.ChannelPort g.D.SaveDevice g.E.Energy events.Sense (replies.Sense c.sense.result) it (record it { running = c.sense.new.self; energy = c.sense.new.energy }) refl (c.sense.ensures.answers (g.D.SaveDevice.state it.device)) c.sense.ensures.stored.cut refl

pub returns-clause-issues : goal.returns-clause-issues
returns-clause-issues g c =
    let it = c.args.it.now in
    issues_none g.K.ChannelPort g.D.SaveDevice g.E.Energy it (record it { running = c.sense.new.self; energy = c.sense.new.energy }) c.requires events.Sense (replies.Sense c.sense.result) (c.sense.ensures.answers (g.D.SaveDevice.state it.device)) (λ i. i)
