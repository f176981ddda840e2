use Rattle.std.proofs.Common.{refl}
use Rattle.nv_machine.specs.declared.events.Event.TheVariants as events
use Rattle.nv_machine.specs.declared.events.Reply.TheVariants as replies
use Rattle.board_hosts.proofs.Holding.{has_device}
use Rattle.board_desk.proofs.Called.{goes_by_event}
use Rattle.board_desk.proofs.Drained.{drains_behind}
use Rattle.board_desk.proofs.Quiet.{loss_issues}
use Rattle.board_desk.proofs.calling.lose_mains.Goals as goal

pub power_loss_with-requires-clause-size : goal.power_loss_with-requires-clause-size
power_loss_with-requires-clause-size g c _ _ = has_device g.K.ChannelPort g.D.SaveDevice g.E.Energy c.args.it.now c.requires.kept

pub returns-clause-goes : goal.returns-clause-goes
returns-clause-goes g c =
    let it = c.args.it.now in
    goes_by_event g.K.ChannelPort g.D.SaveDevice g.E.Energy events.Lose (replies.Lose c.power_loss_with.result) it (record it { running = c.power_loss_with.new.self; device = c.power_loss_with.new.device; energy = c.power_loss_with.new.energy }) refl c.power_loss_with.ensures.answers c.power_loss_with.ensures.stored.cut refl

pub returns-clause-drains : goal.returns-clause-drains
returns-clause-drains g c =
    let lost = c.power_loss_with in
    drains_behind g.K.ChannelPort g.G.Gate c.args.gate.now lost.result c.args.it.now.running.channels lost.new.self.channels lost.ensures.asked lost.ensures.drained

pub returns-clause-issues : goal.returns-clause-issues
returns-clause-issues g c =
    let it = c.args.it.now in
    let lost = c.power_loss_with in
    loss_issues g.K.ChannelPort g.D.SaveDevice g.E.Energy it (record it { running = lost.new.self; device = lost.new.device; energy = lost.new.energy }) c.requires.kept lost.result lost.ensures.answers
