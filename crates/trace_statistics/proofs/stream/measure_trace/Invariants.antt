use Rattle.std.proofs.Common.{◌≡◌, ℕ, List, [], Option}
use Rattle.command_trace.specs.Channels.{FollowsAll}
use Rattle.command_trace.specs.Traces.{HasRead}
use Rattle.trace_statistics.specs.Standing.{AreOfLawful}
use Rattle.trace_statistics.proofs.stream.measure_trace.Given as goal

abbrev pub invariant-loop : goal.invariant-loop
invariant-loop g l = record {
  channels : l.reader.channels ≡ l.fn.reader.channels;
  form : l.reader.form ≡ l.fn.reader.form;
  follows : FollowsAll l.rules l.measured.check;
  whole : l.measured.check.given.items ≡ l.reader.given.items;
  reads : (bytes : Option (List ℕ)) → HasRead g.R.Read.remaining bytes l.fn.reader [] → HasRead g.R.Read.remaining bytes l.reader l.measured.check.given.items;
  lawful : AreOfLawful l.rules l.measured.check.given.items l.measured.statistics.given.items;
  rules : l.measured.statistics.rules ≡ l.rules;
}
