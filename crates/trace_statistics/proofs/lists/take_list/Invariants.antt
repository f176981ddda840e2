use Rattle.std.proofs.Common.{◌≡◌, ◌++◌, map, take}
use Rattle.command_trace.specs.Channels.{FollowsAll}
use Rattle.trace_statistics.specs.Lists.{located}
use Rattle.trace_statistics.specs.Standing.{AreOfLawful}
use Rattle.trace_statistics.proofs.lists.take_list.Given as goal

abbrev pub invariant-loop-command : goal.invariant-loop-command
invariant-loop-command l = record {
  follows : FollowsAll l.rules l.measured.check;
  lawful : AreOfLawful l.rules l.measured.check.given.items l.measured.statistics.given.items;
  rules : l.measured.statistics.rules ≡ l.rules;
  given : l.measured.check.given.items ≡ l.initial.measured.check.given.items ++ map (λ x. located l.channel x) (take l.command-index l.commands);
}
