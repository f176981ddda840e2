use Rattle.std.proofs.Common.{◌≡◌, ◌++◌, drop, map}
use Rattle.command_trace.specs.Channels.{FollowsAll}
use Rattle.trace_statistics.specs.Lists.{AreEarly, located_from}
use Rattle.trace_statistics.specs.Standing.{AreOfLawful}
use Rattle.trace_statistics.proofs.lists.measure_lists.Given as goal

abbrev pub invariant-loop-channel : goal.invariant-loop-channel
invariant-loop-channel l = record {
  follows : FollowsAll l.rules l.measured.check;
  lawful : AreOfLawful l.rules l.measured.check.given.items l.measured.statistics.given.items;
  rules : l.measured.statistics.rules ≡ l.rules;
  given : AreEarly (map (λ list. list.items) l.channels)
      → located_from 0 (map (λ list. list.items) l.channels) ≡ l.measured.check.given.items ++ located_from l.channel (drop l.channel (map (λ list. list.items) l.channels));
}
