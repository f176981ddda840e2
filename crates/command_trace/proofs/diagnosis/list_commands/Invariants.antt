use Rattle.std.proofs.Common.{◌≡◌, ℕ, List, [], Option}
use Rattle.command_trace.specs.Channels.{Lists, found_up_to}
use Rattle.command_trace.specs.Traces.{HasRead}
use Rattle.command_trace.proofs.diagnosis.list_commands.Given as goal

abbrev pub invariant-loop : goal.invariant-loop
invariant-loop g l = record {
  form : l.reader.form ≡ l.fn.reader.form;
  lines : found_up_to l.last l.reader.given.items ≡ l.reader.given.items;
  lists : Lists l.channel l.listed l.reader.given.items;
  reads : (bytes : Option (List ℕ)) → HasRead g.R.Read.remaining bytes l.fn.reader [] → HasRead g.R.Read.remaining bytes l.reader l.reader.given.items;
}
