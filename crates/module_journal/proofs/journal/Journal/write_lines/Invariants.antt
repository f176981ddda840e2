use Rattle.std.specs.Prelude.{◌≡◌, take}
use Rattle.module_core.specs.Stands.{setup_of}
use Rattle.journal_log.specs.Log.{Log}
use Rattle.journal_log.specs.Calls.{Append, call_writes}
use Rattle.journal_lines.specs.Indexed.{IsIndexOf}
use Rattle.module_journal.specs.Writing.{HasWritten}
use Rattle.module_journal.proofs.journal.Journal.write_lines.Given as goal

-- the first lines of the record are written
abbrev pub invariant-loop-number : goal.invariant-loop-number
invariant-loop-number g l = record {
  written : (log : Log) → IsIndexOf l.self.index log → HasWritten g.K.ChannelPort (take l.number (call_writes l.self.index.lines log (Append l.bytes))) l.fn.nvdimm l.nvdimm;
  setup : setup_of g.K.ChannelPort l.nvdimm ≡ setup_of g.K.ChannelPort l.fn.nvdimm;
}
