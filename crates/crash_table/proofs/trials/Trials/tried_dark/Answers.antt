use Rattle.std.proofs.Common.{◌≡◌, ◌∙◌, ℕ, ◌+◌, List, [], ◌∷◌, ◌++◌, true, false, ap, rules, subst, sym}
use Rattle.ddr4_timing.specs.Limits.{lines_of}
use Rattle.nv_script.specs.declared.line.ScriptLine.{ScriptLine}
use Rattle.crash_table.specs.declared.stop.Stop.{Stop}
use Rattle.crash_table.specs.declared.stop.Stop.TheVariants.{Dark}
use Rattle.crash_table.specs.declared.tried.Tried.{Tried}
use Rattle.crash_table.specs.Stops.{dark_below}
use Rattle.crash_table.specs.Outcomes.{AreTriedDark}
use Rattle.crash_table.proofs.Trying.{TriesEach, dark_more, ends_more, tries_dark, tries_more}
use Rattle.crash_table.proofs.trials.Trials.tried_dark.Goals as goal

pub loop-calls-preserved : goal.loop-calls-preserved
loop-calls-preserved g c =
    let size : ℕ = lines_of c.args.self.now.profile.now.checked.geometry in
    let before : List ScriptLine = c.args.standing.now.done.items in
    let tried : List Tried = c.loop-calls.tried.items in
    let dark : List Tried = c.in_ok-dark.dark.tried.items in
    let items : c.extend_from_slice.new.self.items ≡ tried ++ dark =
    c.in_ok-extend_from_slice.ensures.items ∙ ap (λ (xs : List Tried). tried ++ xs) c.deref.ensures.value in
    let tries : TriesEach size before c.args.line (dark_below c.loop-calls.calls ++ Dark c.loop-calls.calls ∷ []) (tried ++ dark) =
    tries_more size before c.args.line (dark_below c.loop-calls.calls) (Dark c.loop-calls.calls) tried dark c.loop-calls.invariant.tries c.in_ok-dark.ensures.each c.in_ok-dark.ensures.are in
    let fails : c.in_ok-dark.dark.fails ≡ true = search rules in
    record {
      tries = subst (TriesEach size before c.args.line (dark_below (c.loop-calls.calls + 1))) (sym items)
          (subst (λ (stops : List Stop). TriesEach size before c.args.line stops (tried ++ dark)) (sym (dark_more c.loop-calls.calls)) tries);
      fails = ends_more size before c.args.line c.loop-calls.calls c.in_ok-dark.dark.fails c.loop-calls.invariant.fails c.in_ok-dark.ensures.ends fails;
    }

pub returns-then-not-dark-clause-dark : goal.returns-then-not-dark-clause-dark
returns-then-not-dark-clause-dark g c =
    let size : ℕ = lines_of c.args.self.now.profile.now.checked.geometry in
    let before : List ScriptLine = c.args.standing.now.done.items in
    let tried : List Tried = c.loop-calls.tried.items in
    let dark : List Tried = c.in_ok-dark.dark.tried.items in
    let items : c.extend_from_slice.new.self.items ≡ tried ++ dark =
    c.in_ok-extend_from_slice.ensures.items ∙ ap (λ (xs : List Tried). tried ++ xs) c.deref.ensures.value in
    let tries : TriesEach size before c.args.line (dark_below c.loop-calls.calls ++ Dark c.loop-calls.calls ∷ []) (tried ++ dark) =
    tries_more size before c.args.line (dark_below c.loop-calls.calls) (Dark c.loop-calls.calls) tried dark c.loop-calls.invariant.tries c.in_ok-dark.ensures.each c.in_ok-dark.ensures.are in
    let passes : c.in_ok-dark.dark.fails ≡ false = search rules in
    subst (AreTriedDark size before c.args.line) (sym items)
    (tries_dark size before c.args.line c.loop-calls.calls c.in_ok-dark.dark.fails (tried ++ dark) c.loop-calls.invariant.fails c.in_ok-dark.ensures.ends passes tries)
