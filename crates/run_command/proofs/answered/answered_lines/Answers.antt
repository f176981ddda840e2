use Rattle.std.proofs.Common.{◌≡◌, ◌+◌, ◌∙◌, ◌++◌, List, [], ap, append-nil, drop, subst, sym}
use Rattle.run_command.specs.Answered.{answered_lines}
use Rattle.run_command.specs.declared.answered.AnsweredLine.{AnsweredLine}
use Rattle.run_command.proofs.Steps.{first_answered, line_taken, none_answered}
use Rattle.run_command.proofs.answered.answered_lines.Goals.{in-Some+in_ok-push, in_default}
use Rattle.run_command.proofs.answered.answered_lines.Goals as goal

pub loop-index-preserved : goal.loop-index-preserved
loop-index-preserved c =
    let lines = c.args.lines.now in
    let i = c.loop-index.index in
    let told = c.loop-index.answered.items in
    let later = c.split_at.result.1.now in
    let All : List AnsweredLine → Type 0 = λ (row : List AnsweredLine). answered_lines 1 lines c.args.answers.now ≡ row ++ answered_lines (i + 1 + 1) (drop (i + 1) lines) later in
    elim c.match-first.branch [
      | in-Some+in_ok-push w ↦
          subst All (sym (ap (λ v. v.items) w.answered-is ∙ w.in_ok-push.ensures.items))
          (line_taken lines c.args.answers.now c.loop-index.left.now told i _ c.loop-index-test.true c.count_to.result c.split_at.result.0.now later _ c.count_to.ensures.value
          c.split_at.ensures.front c.split_at.ensures.back (first_answered (i + 1) _ c.split_at.result.0.now _ w.in-Some.ensures.value) c.loop-index.invariant)
      | in_default w ↦
          subst All (append-nil told ∙ sym (ap (λ v. v.items) w.answered-is))
          (line_taken lines c.args.answers.now c.loop-index.left.now told i _ c.loop-index-test.true c.count_to.result c.split_at.result.0.now later [] c.count_to.ensures.value
          c.split_at.ensures.front c.split_at.ensures.back (none_answered (i + 1) _ c.split_at.result.0.now w.in_default.ensures.value) c.loop-index.invariant)
    ]
