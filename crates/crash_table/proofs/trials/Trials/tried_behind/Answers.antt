use Rattle.std.proofs.Common.{◌≡◌, ◌∙◌, ℕ, List, ◌++◌, ap, subst, sym}
use Rattle.ddr4_timing.specs.Limits.{lines_of}
use Rattle.nv_script.specs.declared.line.ScriptLine.{ScriptLine}
use Rattle.crash_table.specs.declared.tried.Tried.{Tried}
use Rattle.crash_table.specs.Outcomes.{AreTried}
use Rattle.crash_table.proofs.Trying.{tries_all}
use Rattle.crash_table.proofs.trials.Trials.tried_behind.Goals as goal

pub returns-clause-tried : goal.returns-clause-tried
returns-clause-tried g c =
    let size : ℕ = lines_of c.args.self.now.profile.now.checked.geometry in
    let before : List ScriptLine = c.args.standing.now.done.items in
    let dark : List Tried = c.in_ok-tried.tried.items in
    let lost : List Tried = c.in_ok-lost.lost.tried.items in
    let items : c.extend_from_slice.new.self.items ≡ dark ++ lost =
    c.in_ok-extend_from_slice.ensures.items ∙ ap (λ (xs : List Tried). dark ++ xs) c.deref.ensures.value in
    subst (AreTried size before c.args.line) (sym items)
    (tries_all size before c.args.line dark lost c.in_ok-tried.ensures.dark c.in_ok-lost.ensures.each c.in_ok-lost.ensures.are)
