use Rattle.journal_table.proofs.Compacting.{cut_broken, cut_made}
use Rattle.journal_table.proofs.compaction.cut.Goals as goal

pub returns-clause-some : goal.returns-clause-some
returns-clause-some g c = cut_made g.K.ChannelPort c.args.journal.now c.truncate.new.self c.args.nvdimm.now c.truncate.new.nvdimm c.args.upto c.truncate.result c.truncate.ensures.done c.truncate.ensures.within c.truncate.ensures.is

pub returns-clause-part : goal.returns-clause-part
returns-clause-part g c = cut_broken g.K.ChannelPort c.args.journal.now c.truncate.new.self c.args.nvdimm.now c.truncate.new.nvdimm c.args.upto c.truncate.result c.truncate.ensures.kept c.truncate.ensures.refused
