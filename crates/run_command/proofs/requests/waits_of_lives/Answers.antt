use Rattle.std.proofs.Common.{◌+◌, ◌-◌, ◌<◌, ◌≤◌, ◌∙◌, List, ap, arith, drop, length, subst, sym, take}
use Rattle.std.proofs.lemmas.List.{take_rest}
use Rattle.run_command.specs.Requests.{TellsLives}
use Rattle.run_command.specs.declared.answered.AnsweredLine.{AnsweredLine}
use Rattle.run_command.proofs.Steps.{all_lives, begins_nothing, life_begins, nothing_begins, own_lines}
use Rattle.run_command.proofs.requests.waits_of_lives.Goals.{in-Some+in_ok-waits_of_life+in_ok-push, in_default}
use Rattle.run_command.proofs.requests.waits_of_lives.Goals as goal

pub loop-index-init : goal.loop-index-init
loop-index-init c = begins_nothing c.args.profile.now c.args.run.now c.in_ok-answered.answered.items c.new-lives.result.items c.new-lives.ensures.items

pub loop-index-preserved : goal.loop-index-preserved
loop-index-preserved c =
    let profile = c.args.profile.now in
    let run = c.args.run.now in
    let all = c.in_ok-answered.answered.items in
    let i = c.loop-index.index in
    let lives = c.loop-index.lives in
    let line = c.index.result.now in
    let inside : i < length all = omega (arith, c.in_ok-answered.answered.ok) in
    elim c.match-map_begun.branch [
      | in-Some+in_ok-waits_of_life+in_ok-push w ↦
          let row = w.deref.result.now in
          let cut = take (length row - (i + 1)) (drop (i + 1) row) in
          life_begins profile run all i line inside c.index.ensures lives.items _ w.in-Some.map _ (sym w.in-Some.ensures)
          (own_lines profile run (drop (i + 1) all) cut w.count_before_begin.result (length lives.items) w.len.result w.in-Some.map _
          (take_rest row (i + 1) ∙ ap (λ (its : List AnsweredLine). drop (i + 1) its) w.deref.ensures.value) w.count_before_begin.ensures
          (omega (arith, w.len.ensures, lives.ok)) w.in_ok-waits_of_life.ensures)
          (ap (λ v. v.items) w.lives-is ∙ w.in_ok-push.ensures.items) c.loop-index.invariant
      | in_default w ↦
          nothing_begins profile run all i line inside c.index.ensures lives.items _ (sym w.in_default.ensures) (ap (λ v. v.items) w.lives-is) c.loop-index.invariant
    ]

pub returns : goal.returns
returns c =
    let all = c.in_ok-answered.answered.items in
    let past : length all ≤ c.loop-index.index = omega (arith, c.in_ok-answered.answered.ok) in
    subst (λ (lines : List AnsweredLine). TellsLives c.args.profile.now c.args.run.now 0 lines c.loop-index.lives.items) c.in_ok-answered.ensures
    (all_lives c.args.profile.now c.args.run.now all c.loop-index.index c.loop-index.lives.items past c.loop-index.invariant)
