use Rattle.std.proofs.Common.{◌≡◌, ℕ, List, [], Option}
use Rattle.command_trace.specs.Traces.{HasRead}
use Rattle.schedule_drawing.specs.Entries.{AreInTime, AreFoundIn}
use Rattle.schedule_drawing.proofs.entries.read_found.Given as goal

abbrev pub invariant-loop : goal.invariant-loop
invariant-loop g l = record {
  form : l.reader.form ≡ l.fn.reader.form;
  whole : l.commands.items ≡ l.reader.given.items;
  lie : AreFoundIn l.g l.commands.items;
  early : AreInTime l.commands.items;
  reads : (bytes : Option (List ℕ)) → HasRead g.R.Read.remaining bytes l.fn.reader [] → HasRead g.R.Read.remaining bytes l.reader l.commands.items;
}
