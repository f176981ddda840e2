use Rattle.std.proofs.Common.{◌≡◌, List, Some, subst, sym}
use Rattle.std.specs.Prelude.{slice_get}
use Rattle.ddr4_timing.specs.Limits.{lines_of}
use Rattle.nv_profile.specs.declared.profile.Profile.{Profile}
use Rattle.nv_script.specs.declared.answer.Answer.{Answer}
use Rattle.nv_script.specs.declared.line.ScriptLine.{ScriptLine}
use Rattle.crash_table.specs.Outcomes.{IsOutcomeOf}
use Rattle.crash_table.specs.declared.outcome.Outcome.{Outcome}
use Rattle.crash_table.proofs.Behind.{restored_here}
use Rattle.crash_table.proofs.trials.Trials.outcome_at.Goals as goal

pub returns-in-Some-clause-found : goal.returns-in-Some-clause-found
returns-in-Some-clause-found g c =
    let profile : Profile = c.args.self.now.profile.now in
    let copy = c.in_ok-restored.restored in
    let stands = c.in_ok-restored.ensures.stands profile c.requires in
    let at : slice_get c.answer_line.new.report.taken.items 0 ≡ Some c.in-Some.given.now =
    subst (λ (some : List Answer). slice_get some 0 ≡ Some c.in-Some.given.now) c.deref.ensures.value (sym c.in-Some.ensures.value) in
    let outcome : Outcome = record { found = c.by.result; told = c.unwrap_or.result } in
    subst (λ (lines : List ScriptLine). IsOutcomeOf (lines_of profile.checked.geometry) lines c.args.pick outcome) c.in_ok-restored.ensures.done
    (restored_here profile copy stands c.args.pick c.new-answers.result.taken.items c.answer_line.new.report.taken.items c.answer_line.new.session c.new-answers.ensures c.in-Ok.ensures.done
    c.in-Some.given.now at outcome c.by.ensures c.unwrap_or.ensures)
