use Rattle.std.proofs.Common.{◌∙◌, refl}
use Rattle.table_log.specs.Changes.{Put}
use Rattle.journal_table.proofs.Compacting.{nothing_called, rewrite_called, rewrite_refused}
use Rattle.journal_table.proofs.compaction.rewrite_one.Goals as goal

pub returns-in_default-clause-part : goal.returns-in_default-clause-part
returns-in_default-clause-part g c = λ log table is.
    nothing_called g.K.ChannelPort c.args.journal.now.index c.args.journal.now.index c.args.nvdimm.now c.args.nvdimm.now log table is refl is

pub returns-in-Ok-append-clause-done : goal.returns-in-Ok-append-clause-done
returns-in-Ok-append-clause-done g c = λ log table is lawful.
    rewrite_called g.K.ChannelPort c.args.journal.now.index c.append.new.self.index c.args.nvdimm.now c.append.new.nvdimm log table is c.deref.result.now (Put c.args.key.now c.args.value.now)
    (c.deref.ensures.value ∙ c.in-Ok.ensures) c.in-Ok-append.ensures.done c.in-Ok-append.ensures.room (c.in-Ok-append.ensures.is log is) lawful

pub returns-clause-part : goal.returns-clause-part
returns-clause-part g c = λ log table is.
    rewrite_refused g.K.ChannelPort c.args.journal.now.index c.append.new.self.index c.args.nvdimm.now c.append.new.nvdimm log table is c.deref.result.now (Put c.args.key.now c.args.value.now)
    (c.deref.ensures.value ∙ c.in-Ok.ensures) c.in-Err.refusal c.in-Err.ensures.refused (c.in-Err.ensures.kept log is)
