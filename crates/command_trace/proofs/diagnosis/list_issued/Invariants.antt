use Rattle.std.proofs.Common.{◌≡◌, ℕ, List, [], Option}
use Rattle.auto_precharge.specs.FullLists.{AreEarly}
use Rattle.command_trace.specs.Channels.{found_up_to, issued_to}
use Rattle.command_trace.specs.Traces.{HasRead}
use Rattle.command_trace.proofs.diagnosis.list_issued.Given as goal

abbrev pub invariant-loop : goal.invariant-loop
invariant-loop g l = record {
  form : l.reader.form ≡ l.fn.reader.form;
  lines : found_up_to l.last l.reader.given.items ≡ l.reader.given.items;
  is : l.listed.items ≡ issued_to l.channel l.reader.given.items;
  early : AreEarly l.listed.items;
  reads : (bytes : Option (List ℕ)) → HasRead g.R.Read.remaining bytes l.fn.reader [] → HasRead g.R.Read.remaining bytes l.reader l.reader.given.items;
}
