use Rattle.std.proofs.Common.{◌≡◌, ℕ, List, [], Option}
use Rattle.command_trace.specs.Channels.{FollowsAll}
use Rattle.command_trace.specs.Traces.{HasRead}
use Rattle.command_trace.proofs.diagnosis.check_trace.Given as goal

abbrev pub invariant-loop : goal.invariant-loop
invariant-loop g l = record {
  channels : l.reader.channels ≡ l.fn.reader.channels;
  form : l.reader.form ≡ l.fn.reader.form;
  follows : FollowsAll l.rules l.check;
  whole : l.check.given.items ≡ l.reader.given.items;
  reads : (bytes : Option (List ℕ)) → HasRead g.R.Read.remaining bytes l.fn.reader [] → HasRead g.R.Read.remaining bytes l.reader l.check.given.items;
}
