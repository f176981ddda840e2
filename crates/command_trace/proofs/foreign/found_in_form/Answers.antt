use Rattle.std.proofs.Common.{◌≡◌, Some, arith}
use Rattle.std.proofs.lemmas.Grind.{common_steps}
use Rattle.std.proofs.lemmas.Result.{IfErr-weaker}
use Rattle.trace_forms.specs.Forms.{words_in}
use Rattle.trace_forms.specs.Words.{texts_of}
use Rattle.command_trace.specs.Foreign.{LineSaysNone, SaysNone}
use Rattle.command_trace.proofs.ForeignLines.{no_line}
use Rattle.command_trace.proofs.foreign.found_in_form.Goals as goal

pub returns-in-Some-clause-none : goal.returns-in-Some-clause-none
returns-in-Some-clause-none c =
    let is : words_in c.args.form.now c.args.text.now ≡ Some (texts_of c.deref.result.now) = grind (arith, common_steps) in
    IfErr-weaker c.located_in.result (λ _. SaysNone c.args.form.now (texts_of c.deref.result.now)) (λ _. LineSaysNone c.args.form.now c.args.text.now c.args.line)
    (λ why none. no_line c.args.form.now c.args.text.now c.args.line _ is none) c.located_in.ensures.none
