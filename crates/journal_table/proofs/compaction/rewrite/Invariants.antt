use Rattle.std.specs.Prelude.{◌≡◌}
use Rattle.module_core.specs.Stands.{setup_of}
use Rattle.journal_table.proofs.Compacting.{RewrittenSoFar}
use Rattle.journal_table.proofs.compaction.rewrite.Given as goal

-- the first entries are rewritten
abbrev pub invariant-loop-key : goal.invariant-loop-key
invariant-loop-key g l = record {
  so : RewrittenSoFar g.K.ChannelPort l.fn.journal.index.lines l.values l.fn.journal.index l.fn.nvdimm l.values.entries l.key-iterator l.journal.index l.nvdimm;
  lines : l.journal.index.lines ≡ l.fn.journal.index.lines;
  setup : setup_of g.K.ChannelPort l.nvdimm ≡ setup_of g.K.ChannelPort l.fn.nvdimm;
}
