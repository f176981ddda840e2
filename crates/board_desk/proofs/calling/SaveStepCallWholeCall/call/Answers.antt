use Rattle.std.proofs.Common.{refl}
use Rattle.nv_machine.specs.declared.events.Event.TheVariants as events
use Rattle.nv_machine.specs.declared.events.Reply.TheVariants as replies
use Rattle.board_hosts.proofs.Holding.{has_device}
use Rattle.board_desk.proofs.Called.{goes_by_event}
use Rattle.board_desk.proofs.Quiet.{issues_none}
use Rattle.board_desk.proofs.calling.SaveStepCallWholeCall.call.Goals as goal

pub save_step-requires : goal.save_step-requires
save_step-requires g c = record { size = has_device g.K.ChannelPort g.D.SaveDevice g.E.Energy c.args.it.now c.requires }

pub returns-clause-goes : goal.returns-clause-goes
returns-clause-goes g c =
    let it = c.args.it.now in
    goes_by_event g.K.ChannelPort g.D.SaveDevice g.E.Energy events.SaveStep (replies.SaveStep c.save_step.result) it (record it { running = c.save_step.new.self; device = c.save_step.new.device; energy = c.save_step.new.energy }) refl c.save_step.ensures.answers c.save_step.ensures.stored.cut refl

pub returns-clause-issues : goal.returns-clause-issues
returns-clause-issues g c =
    let it = c.args.it.now in
    issues_none g.K.ChannelPort g.D.SaveDevice g.E.Energy it (record it { running = c.save_step.new.self; device = c.save_step.new.device; energy = c.save_step.new.energy }) c.requires events.SaveStep (replies.SaveStep c.save_step.result) c.save_step.ensures.answers (λ i. i)
