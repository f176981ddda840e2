use Rattle.std.proofs.Common.{◌∙◌, ◌++◌, [], ◌∷◌, List, ap, get_or, sym}
use Rattle.std.proofs.lemmas.List.{take_more}
use Rattle.nv_script.specs.declared.line.ScriptLine.{ScriptLine}
use Rattle.nv_script.specs.declared.line.ScriptLine.TheVariants.{Format}
use Rattle.crash_table.proofs.trials.Trials.done.Goals as goal

pub loop-line-preserved : goal.loop-line-preserved
loop-line-preserved g c =
    let lines : List ScriptLine = c.args.lines.now in
    let line : ScriptLine = get_or lines c.loop-line.line-index Format in
    record {
      stands = c.in_ok-go_on.ensures.goes.stands c.args.self.now.profile.now c.loop-line.invariant.stands;
      done = c.in_ok-go_on.ensures.goes.done ∙ ap (λ (some : List ScriptLine). some ++ line ∷ []) c.loop-line.invariant.done
          ∙ sym (take_more lines c.loop-line.line-index Format c.loop-line-test.true);
    }
