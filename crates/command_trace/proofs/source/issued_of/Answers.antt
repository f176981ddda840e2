use Rattle.std.proofs.Common.{List, IfOk, subst}
use Rattle.command_trace.specs.Traces.{AreFirstOf}
use Rattle.command_trace.specs.declared.entry.Located.{Located}
use Rattle.command_trace.specs.declared.reading.Form.{Form}
use Rattle.command_trace.proofs.TraceLemmas.{both_ok}
use Rattle.command_trace.proofs.source.issued_of.Goals as goal

pub returns-clause-reads : goal.returns-clause-reads
returns-clause-reads g c =
    let bytes = g.S.Read.remaining c.args.trace in let given : List Located = c.list_issued.new.reader.given.items in
    both_ok c.list_issued.result _ _ _ (λ issued is first. (given, first, is)) c.list_issued.ensures.is
    (subst (λ (f : Form). IfOk c.list_issued.result (λ _. AreFirstOf f bytes given)) c.new-reader.ensures.form
    (c.list_issued.ensures.reads bytes c.new-reader.ensures.read))
