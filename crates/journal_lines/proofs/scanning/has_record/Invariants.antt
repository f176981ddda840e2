use Rattle.std.specs.Prelude.{◌≡◌, drop, take}
use Rattle.journal_log.specs.Lines.{lines_of}
use Rattle.journal_lines.specs.Scanning.{lines_in_use}
use Rattle.journal_lines.proofs.scanning.has_record.Given as goal

-- the first lines are those of the record
abbrev pub invariant-loop-number : goal.invariant-loop-number
invariant-loop-number l = take l.number (drop l.from (lines_in_use l.memory l.first l.used)) ≡ take l.number (lines_of l.bytes)
