use Rattle.std.proofs.Common.{◌≡◌, length, map, take}
use Rattle.channel_set.specs.Issuing.{issued_in}
use Rattle.script_runner.proofs.book.counts_of.Given as goal

abbrev pub invariant-loop-number : goal.invariant-loop-number
invariant-loop-number g l = l.counts.items ≡ map length (take l.number (issued_in _ l.channels))
