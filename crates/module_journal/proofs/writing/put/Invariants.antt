use Rattle.std.specs.Prelude.{◌≡◌, []}
use Rattle.module_core.specs.Stands.{setup_of}
use Rattle.module_journal.specs.Writing.{HasWritten}
use Rattle.module_journal.proofs.writing.put.Given as goal

-- the tries so far accepted nothing
abbrev pub invariant-loop-try : goal.invariant-loop-try
invariant-loop-try g l = record {
  written : HasWritten g.K.ChannelPort [] l.fn.nvdimm l.nvdimm;
  setup : setup_of g.K.ChannelPort l.nvdimm ≡ setup_of g.K.ChannelPort l.fn.nvdimm;
}
