use Rattle.std.specs.Prelude.{◌≡◌, ◌++◌, drop}
use Rattle.journal_lines.specs.Scanning.{first_of, lines_in_use}
use Rattle.journal_lines.proofs.scanning.bytes_at.Given as goal

-- what is read so far, and what the other lines hold
abbrev pub invariant-loop-number : goal.invariant-loop-number
invariant-loop-number l =
    l.bytes.items ++ first_of (drop l.number (lines_in_use l.memory l.first l.used)) ≡ first_of (drop l.from (lines_in_use l.memory l.first l.used))
