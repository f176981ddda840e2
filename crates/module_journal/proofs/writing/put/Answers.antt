use Rattle.std.proofs.Common.{[], refl, ◌∙◌}
use Rattle.module_journal.proofs.Joining.{and_nothing, joined_last, none_written, then_done, then_refused}
use Rattle.module_journal.proofs.writing.put.Goals as goal

pub loop-try-init : goal.loop-try-init
loop-try-init g c = record { written = none_written g.K.ChannelPort c.args.nvdimm.now; setup = refl }

pub returns-in_default : goal.returns-in_default
returns-in_default g c = record {
  done = tt;
  refused = joined_last g.K.ChannelPort _ [] [] c.args.nvdimm.now c.loop-try.nvdimm c.put_once.new.nvdimm c.loop-try.invariant.written c.in_default.ensures.refused;
  setup = c.put_once.ensures.setup ∙ c.loop-try.invariant.setup;
}

pub returns-in_default-2-clause-done : goal.returns-in_default-2-clause-done
returns-in_default-2-clause-done g c =
    then_done g.K.ChannelPort c.args.write c.args.nvdimm.now c.loop-try.nvdimm c.put_once.new.nvdimm c.loop-try.invariant.written c.put_once.result c.put_once.ensures.done

pub loop-try-preserved : goal.loop-try-preserved
loop-try-preserved g c = record {
  written = and_nothing g.K.ChannelPort [] c.args.nvdimm.now c.put_once.new.nvdimm c.work_for.new.nvdimm
      (and_nothing g.K.ChannelPort [] c.args.nvdimm.now c.loop-try.nvdimm c.put_once.new.nvdimm c.loop-try.invariant.written c.in-Err-Full.ensures.refused.written) c.work_for.ensures.written;
  setup = c.work_for.ensures.setup ∙ c.put_once.ensures.setup ∙ c.loop-try.invariant.setup;
}

pub returns-clause-done : goal.returns-clause-done
returns-clause-done g c =
    then_done g.K.ChannelPort c.args.write c.args.nvdimm.now c.loop-try.nvdimm c.put_once-2.new.nvdimm c.loop-try.invariant.written c.put_once-2.result c.put_once-2.ensures.done

pub returns-clause-refused : goal.returns-clause-refused
returns-clause-refused g c =
    then_refused g.K.ChannelPort c.args.write c.args.nvdimm.now c.loop-try.nvdimm c.put_once-2.new.nvdimm c.loop-try.invariant.written c.put_once-2.result c.put_once-2.ensures.refused
