use Rattle.std.specs.Prelude.{◌≡◌}
use Rattle.module_core.specs.Stands.{setup_of}
use Rattle.nv_session.specs.Coming.{ComesAlone}
use Rattle.journal_reads.proofs.Gathering.{HasReadLines}
use Rattle.journal_reads.proofs.reading.read_lines.Given as goal

-- the lines before this one are read
abbrev pub invariant-loop-at : goal.invariant-loop-at
invariant-loop-at g l = record {
  comes : ComesAlone g.K.ChannelPort (HasReadLines l.fn.index l.fn.number l.at l.bytes.items) l.fn.nvdimm l.nvdimm;
  setup : setup_of g.K.ChannelPort l.nvdimm ≡ setup_of g.K.ChannelPort l.fn.nvdimm;
}
