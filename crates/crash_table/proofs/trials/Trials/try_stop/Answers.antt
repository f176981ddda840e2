use Rattle.std.proofs.Common.{◌≡◌, ◌∙◌, ℕ, List, [], ◌∷◌, ◌++◌, map, get_or, All, ap, subst, sym}
use Rattle.std.proofs.lemmas.List.Elements.{All-push}
use Rattle.ddr4_timing.specs.Limits.{lines_of}
use Rattle.nv_script.specs.declared.line.ScriptLine.{ScriptLine}
use Rattle.save_device.specs.declared.memory.Pick.{Pick}
use Rattle.save_device.specs.declared.memory.Pick.TheVariants.{Old}
use Rattle.crash_table.specs.declared.tried.Tried.{Tried}
use Rattle.crash_table.specs.Stops.{picks, stopped_lines}
use Rattle.crash_table.specs.Outcomes.{IsOutcomeOf, IsTried, MayEnd, tried_at}
use Rattle.crash_table.proofs.Behind.{stands_ends}
use Rattle.crash_table.proofs.Trying.{pick_more}
use Rattle.crash_table.proofs.trials.Trials.try_stop.Goals as goal

pub loop-pick-preserved : goal.loop-pick-preserved
loop-pick-preserved g c =
    let size : ℕ = lines_of c.args.self.now.profile.now.checked.geometry in
    let before : List ScriptLine = c.args.standing.now.done.items in
    let pick : Pick = get_or picks c.loop-pick.pick-index Old in
    let one : Tried = record { stop = c.args.stop; pick = pick; outcome = c.in_ok-outcome.outcome } in
    let items : c.extend_from_slice.new.self.items ≡ c.loop-pick.tried.items ++ one ∷ [] = c.in_ok-extend_from_slice.ensures.items in
    let found : IsOutcomeOf size (stopped_lines before c.args.line c.args.stop) pick c.in_ok-outcome.outcome =
    subst (λ (lines : List ScriptLine). IsOutcomeOf size lines pick c.in_ok-outcome.outcome) c.in_ok-behind.ensures.lines c.in_ok-outcome.ensures.found in
    let are : All (IsTried size before c.args.line) (c.loop-pick.tried.items ++ one ∷ []) =
    All-push (IsTried size before c.args.line) c.loop-pick.tried.items one c.loop-pick.invariant.are found in
    record {
      each = ap (map tried_at) items ∙ pick_more picks c.args.stop c.loop-pick.pick-index Old c.loop-pick.tried.items c.in_ok-outcome.outcome c.loop-pick-test.true c.loop-pick.invariant.each;
      are = subst (All (IsTried size before c.args.line)) (sym items) are;
    }

pub returns-clause-ends : goal.returns-clause-ends
returns-clause-ends g c =
    let size : ℕ = lines_of c.args.self.now.profile.now.checked.geometry in
    subst (λ (lines : List ScriptLine). MayEnd size lines c.in_ok-behind.behind.standing.fails) c.in_ok-behind.ensures.lines
    (stands_ends c.args.self.now.profile.now c.in_ok-behind.behind.standing c.in_ok-behind.ensures.behind.stands)
