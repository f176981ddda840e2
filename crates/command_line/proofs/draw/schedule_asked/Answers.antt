use Rattle.std.proofs.Common.{ℕ, List, subst}
use Rattle.std.proofs.lemmas.Result.{IfOk-weaker}
use Rattle.command_line.specs.Drawn.{IsDrawnBy, IsScheduleNamed}
use Rattle.command_line.proofs.draw.schedule_asked.Goals as goal

pub returns : goal.returns
returns g c =
    let gives = g.R.FileHost.gives c.args.rt.now in
    let text = c.in_ok-bytes.bytes.items in let asked = c.in_ok-form.form in
    IfOk-weaker c.schedule_of.result (IsDrawnBy gives c.word_or.result.now asked c.deref.result.now)
    (IsScheduleNamed gives c.args.matches.now)
    (λ schedule drawn. record {
      text = text;
      asked = asked;
      of_word = subst (λ (word : List ℕ). gives word text) c.word_or-name.ensures c.in_ok-bytes.ensures.given;
      of_form = c.in_ok-form.ensures.form;
      drawn = subst (λ (word : List ℕ). IsDrawnBy gives word asked text schedule) c.word_or.ensures
          (subst (λ (some : List ℕ). IsDrawnBy gives c.word_or.result.now asked some schedule) c.deref.ensures.value drawn);
    }) c.schedule_of.ensures
