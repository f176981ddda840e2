use Rattle.std.proofs.Common.{◌≡◌, map, take}
use Rattle.channel_set.specs.Issuing.{issued_in}
use Rattle.script_runner.proofs.book.commands_of.Given as goal

abbrev pub invariant-loop-number : goal.invariant-loop-number
invariant-loop-number g l = map (λ commands. commands.items) l.lists.items ≡ take l.number (issued_in _ l.channels)
