use Rattle.std.proofs.Common.{List, IfOk, refl, subst}
use Rattle.command_trace.specs.Traces.{AreCommandsOf}
use Rattle.command_trace.specs.declared.entry.Located.{Located}
use Rattle.command_trace.specs.declared.reading.Form.{Form}
use Rattle.command_trace.proofs.TraceLemmas.{both_ok}
use Rattle.command_trace.proofs.source.list_of.Goals as goal

pub returns : goal.returns
returns g c =
    let bytes = g.S.Read.remaining c.args.trace in let given : List Located = c.list_commands.new.reader.given.items in
    both_ok c.list_commands.result _ _ _ (λ listed lists all. (given, all, lists)) (c.list_commands.ensures.whole refl)
    (subst (λ (f : Form). IfOk c.list_commands.result (λ _. AreCommandsOf f bytes given)) c.new-reader.ensures.form
    (c.list_commands.ensures.reads refl bytes c.new-reader.ensures.read))
