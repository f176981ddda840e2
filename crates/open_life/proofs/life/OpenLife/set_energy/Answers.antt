use Rattle.std.proofs.Common.{subst}
use Rattle.nv_machine.specs.declared.events.Event.TheVariants as events
use Rattle.nv_machine.specs.declared.events.Reply.TheVariants as replies
use Rattle.nv_session.proofs.Common.{Assembly, IsOneEvent}
use Rattle.open_life.specs.Lives.{GoesOn}
use Rattle.open_life.specs.Now.{now_of}
use Rattle.open_life.proofs.life.OpenLife.set_energy.Goals as goal

pub returns-clause-goes : goal.returns-clause-goes
returns-clause-goes g c =
    let L = g.K.ChannelPort in
    subst (λ (old : Assembly L). GoesOn L (λ setup. IsOneEvent events.Sense (replies.Sense c.sense.result)) old (now_of c.sense.new.self)) c.set_level.ensures.now c.sense.ensures.goes
