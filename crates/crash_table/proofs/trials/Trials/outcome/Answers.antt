use Rattle.std.proofs.Common.{◌≡◌, ◌∙◌, ℕ, List, [], ◌∷◌, ◌++◌, Some, None, ap, rules, subst, sym}
use Rattle.ddr4_timing.specs.Limits.{lines_of}
use Rattle.nv_script.specs.declared.line.ScriptLine.{ScriptLine}
use Rattle.nv_script.specs.declared.line.ScriptLine.TheVariants as line
use Rattle.script_runner.specs.Story.{AreAllAnswered}
use Rattle.crash_table.proofs.Runs.{restored_by}
use Rattle.crash_table.proofs.trials.Trials.outcome.Goals as goal

pub returns-clause-found : goal.returns-clause-found
returns-clause-found c =
    let size : ℕ = lines_of c.args.self.now.profile.now.checked.geometry in
    let restore : ScriptLine = line.Restore (Some c.args.pick) None in
    let copied : c.in_ok-whole.whole.items ≡ c.args.lines.now = c.in_ok-whole.ensures.items_if_clones_equal (λ x y same. search rules) in
    let whole : c.deref.result.now ≡ c.args.lines.now ++ restore ∷ [] =
    c.deref.ensures.value ∙ (c.in_ok-extend_from_slice.ensures.items ∙ ap (λ (lines : List ScriptLine). lines ++ restore ∷ []) copied) in
    let answered : AreAllAnswered size (c.args.lines.now ++ restore ∷ []) [] c.in_ok-answers.answers.items =
    subst (λ (lines : List ScriptLine). AreAllAnswered size lines [] c.in_ok-answers.answers.items) whole c.in_ok-answers.ensures.answered in
    let split : c.in_ok-answers.answers.items ≡ c.in-Some.before.now ++ c.in-Some.restore.now ∷ [] = sym c.deref-2.ensures.value ∙ c.in-Some.ensures.cases.0 in
    restored_by size c.args.lines.now c.args.pick c.in_ok-answers.answers.items answered c.in-Some.before.now c.in-Some.restore.now split _ (cc) (cc)
