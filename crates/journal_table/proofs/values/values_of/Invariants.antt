use Rattle.std.specs.Prelude.{◌-◌, ◌≤◌}
use Rattle.journal_log.specs.Log.{Holds, Log}
use Rattle.journal_lines.specs.Indexed.{IsIndexOf}
use Rattle.journal_table.proofs.Reading.{ReadSoFar}
use Rattle.journal_table.proofs.values.values_of.Given as goal

-- the first records are read
abbrev pub invariant-loop-number : goal.invariant-loop-number
invariant-loop-number l = record {
  above : l.journal.index.gone ≤ l.number;
  read : (log : Log) → IsIndexOf l.journal.index log → Holds l.memory log → ReadSoFar l.values log (l.number - log.gone);
}
