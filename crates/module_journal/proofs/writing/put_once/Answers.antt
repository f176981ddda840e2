use Rattle.module_journal.proofs.Joining.{one_done, one_refused}
use Rattle.module_journal.proofs.writing.put_once.Goals as goal

pub returns-clause-done : goal.returns-clause-done
returns-clause-done g c = one_done g.K.ChannelPort c.args.write c.args.nvdimm.now c.write.new.self c.write.result c.write.ensures.answers c.write.ensures.setup

pub returns-clause-refused : goal.returns-clause-refused
returns-clause-refused g c = one_refused g.K.ChannelPort c.args.write c.args.nvdimm.now c.write.new.self c.write.result c.write.ensures.answers c.write.ensures.setup
