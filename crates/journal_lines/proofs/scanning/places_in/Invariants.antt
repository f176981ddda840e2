use Rattle.std.specs.Prelude.{◌-◌, length}
use Rattle.journal_lines.specs.Scanning.{lines_in_use}
use Rattle.journal_lines.proofs.Reading.{ReadUpTo}
use Rattle.journal_lines.proofs.scanning.places_in.Given as goal

-- the records so far
abbrev pub invariant-loop-from : goal.invariant-loop-from
invariant-loop-from l = ReadUpTo (lines_in_use l.memory l.first l.used) (length l.memory) l.first l.from l.places.items

abbrev pub decreases-loop-from : goal.decreases-loop-from
decreases-loop-from l = l.used - l.from
