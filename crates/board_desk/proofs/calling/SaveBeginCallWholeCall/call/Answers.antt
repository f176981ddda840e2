use Rattle.std.proofs.Common.{refl}
use Rattle.nv_machine.specs.declared.events.Event.TheVariants as events
use Rattle.nv_machine.specs.declared.events.Reply.TheVariants as replies
use Rattle.board_desk.proofs.Called.{goes_by_event}
use Rattle.board_desk.proofs.Quiet.{issues_none}
use Rattle.board_desk.proofs.calling.SaveBeginCallWholeCall.call.Goals as goal

pub returns-clause-goes : goal.returns-clause-goes
returns-clause-goes g c =
    let it = c.args.it.now in
    goes_by_event g.K.ChannelPort g.D.SaveDevice g.E.Energy events.SaveBegin (replies.SaveBegin c.save_begin.result) it (record it { running = c.save_begin.new.self }) refl (c.save_begin.ensures.answers (g.D.SaveDevice.state it.device) (g.E.Energy.gauge it.energy)) c.save_begin.ensures.stored.cut refl

pub returns-clause-issues : goal.returns-clause-issues
returns-clause-issues g c =
    let it = c.args.it.now in
    issues_none g.K.ChannelPort g.D.SaveDevice g.E.Energy it (record it { running = c.save_begin.new.self }) c.requires events.SaveBegin (replies.SaveBegin c.save_begin.result) (c.save_begin.ensures.answers (g.D.SaveDevice.state it.device) (g.E.Energy.gauge it.energy)) (λ i. i)
