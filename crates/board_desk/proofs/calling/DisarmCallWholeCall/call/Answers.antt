use Rattle.std.proofs.Common.{refl}
use Rattle.nv_machine.specs.declared.events.Event.TheVariants as events
use Rattle.nv_machine.specs.declared.events.Reply.TheVariants as replies
use Rattle.board_desk.proofs.Called.{goes_by_event}
use Rattle.board_desk.proofs.Quiet.{issues_none}
use Rattle.board_desk.proofs.calling.DisarmCallWholeCall.call.Goals as goal

pub returns-clause-goes : goal.returns-clause-goes
returns-clause-goes g c =
    let it = c.args.it.now in
    goes_by_event g.K.ChannelPort g.D.SaveDevice g.E.Energy events.Disarm (replies.Disarm c.disarm.result) it (record it { running = c.disarm.new.self }) refl (c.disarm.ensures.answers (g.D.SaveDevice.state it.device) (g.E.Energy.gauge it.energy)) c.disarm.ensures.stored.cut refl

pub returns-clause-issues : goal.returns-clause-issues
returns-clause-issues g c =
    let it = c.args.it.now in
    issues_none g.K.ChannelPort g.D.SaveDevice g.E.Energy it (record it { running = c.disarm.new.self }) c.requires events.Disarm (replies.Disarm c.disarm.result) (c.disarm.ensures.answers (g.D.SaveDevice.state it.device) (g.E.Energy.gauge it.energy)) (λ i. i)
