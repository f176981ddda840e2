use Rattle.std.proofs.Common.{◌∙◌, ◌<◌, ap, subst, sym, Result, Ok}
use Rattle.channel_port.specs.declared.answers.Got.{Got}
use Rattle.arm_state.specs.declared.refusal.ReadRefusal.{ReadRefusal}
use Rattle.nv_machine.specs.declared.events.Event.TheVariants as events
use Rattle.nv_machine.specs.declared.events.Reply.TheVariants as replies
use Rattle.module_core.specs.Stands.{AnswersAlone}
use Rattle.nv_machine.specs.State.{Setup}
use Rattle.open_life.proofs.Seeing.{sees_later, sees_now, sees_refusal}
use Rattle.open_life.proofs.turns.read.Goals as goal

pub returns-in-Ok-Now-clause-comes : goal.returns-in-Ok-Now-clause-comes
returns-in-Ok-Now-clause-comes g c =
    let L = g.K.ChannelPort in
    sees_now L c.args.turns c.args.line c.in-Ok-Now.bytes c.args.running.now c.read.new.self
    (subst (λ (answer : Result Got ReadRefusal). AnswersAlone L (events.Read c.args.line) (replies.Read answer) c.args.running.now c.read.new.self) (c.in-Ok-Now.is ∙ ap (λ (got : Got). Ok got) c.in-Ok-Now.field-0-is) c.read.ensures.answers)

pub returns-in-Ok-Later-clause-comes : goal.returns-in-Ok-Later-clause-comes
returns-in-Ok-Later-clause-comes g c =
    let L = g.K.ChannelPort in
    sees_later L c.args.turns c.args.line c.channel_of-channel.result c.in-Ok-Later.ticket c.await_read.result c.args.running.now c.read.new.self c.await_read.new.running c.read.ensures.setup c.channel_of-channel.ensures.is
    (subst (λ (answer : Result Got ReadRefusal). AnswersAlone L (events.Read c.args.line) (replies.Read answer) c.args.running.now c.read.new.self) (c.in-Ok-Later.is ∙ ap (λ (got : Got). Ok got) c.in-Ok-Later.field-0-is) c.read.ensures.answers)
    c.await_read.ensures.comes

pub returns-in-Err-clause-comes : goal.returns-in-Err-clause-comes
returns-in-Err-clause-comes g c =
    let L = g.K.ChannelPort in
    sees_refusal L c.args.turns c.args.line c.in-Err.refusal c.args.running.now c.read.new.self
    (subst (λ (answer : Result Got ReadRefusal). AnswersAlone L (events.Read c.args.line) (replies.Read answer) c.args.running.now c.read.new.self) c.in-Err.is c.read.ensures.answers)

pub returns-in-Ok-Later-clause-stored : goal.returns-in-Ok-Later-clause-stored
returns-in-Ok-Later-clause-stored g c =
    let read = c.read.ensures.stored in let awaited = c.await_read.ensures.stored in record { cut = awaited.cut ∙ read.cut; saved = awaited.saved ∙ read.saved }

pub await_read-requires : goal.await_read-requires
await_read-requires g c = subst (λ (s : Setup). c.channel_of-channel.result < s.shape.channels) (sym c.read.ensures.setup) c.channel_of-channel.ensures.known
