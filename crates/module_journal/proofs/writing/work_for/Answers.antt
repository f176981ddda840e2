use Rattle.nv_machine.specs.declared.events.Event.TheVariants as events
use Rattle.nv_machine.specs.declared.events.Reply.TheVariants as replies
use Rattle.module_journal.proofs.Joining.{none_written, one_call}
use Rattle.module_journal.proofs.writing.work_for.Goals as goal

pub returns-in_default-clause-written : goal.returns-in_default-clause-written
returns-in_default-clause-written g c = none_written g.K.ChannelPort c.args.nvdimm.now

pub returns-then-place-count-clause-written : goal.returns-then-place-count-clause-written
returns-then-place-count-clause-written g c = none_written g.K.ChannelPort c.args.nvdimm.now

pub returns-clause-written : goal.returns-clause-written
returns-clause-written g c =
    (one_call g.K.ChannelPort (events.Work c.in-Some.place.channel) (replies.Work c.work-done.result) c.args.nvdimm.now c.work-done.new.self c.work-done.ensures.answers c.work-done.ensures.setup).written
