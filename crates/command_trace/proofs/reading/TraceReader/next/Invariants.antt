use Rattle.std.proofs.Common.{◌≡◌, ℕ, List, Option}
use Rattle.command_trace.specs.Traces.{HasRead}
use Rattle.command_trace.specs.declared.entry.Located.{Located}
use Rattle.command_trace.proofs.reading.TraceReader.next.Given as goal

abbrev pub invariant-loop : goal.invariant-loop
invariant-loop g l = record {
  channels : l.self.channels ≡ l.fn.self.channels;
  given : l.self.given ≡ l.fn.self.given;
  form : l.self.form ≡ l.fn.self.form;
  reads : (bytes : Option (List ℕ)) (found : List Located) → HasRead g.R.Read.remaining bytes l.fn.self found → HasRead g.R.Read.remaining bytes l.self found;
}
