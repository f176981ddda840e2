use Rattle.std.proofs.Common.{List, subst}
use Rattle.std.proofs.lemmas.Result.{IfOk-weaker}
use Rattle.ddr4_timing.specs.Limits.{lines_of}
use Rattle.nv_script.specs.declared.line.ScriptLine.{ScriptLine}
use Rattle.crash_table.specs.Counting.{complete_ones, most_missing}
use Rattle.crash_table.specs.Outcomes.{AreTried}
use Rattle.crash_table.proofs.Counted.{complete_none}
use Rattle.crash_table.proofs.trials.Trials.tried.Goals as goal

pub returns-clause-tried : goal.returns-clause-tried
returns-clause-tried c =
    let size = lines_of c.args.self.now.profile.now.checked.geometry in
    let line = c.args.line in
    IfOk-weaker c.tried_behind.result _ _ (λ tried are. subst (λ (lines : List ScriptLine). AreTried size lines line tried.items) c.in_ok-standing.ensures.done are) c.tried_behind.ensures.tried

pub returns-clause-complete : goal.returns-clause-complete
returns-clause-complete c =
    let size = lines_of c.args.self.now.profile.now.checked.geometry in
    IfOk-weaker c.tried_behind.result _ _ (λ tried are. complete_none size c.in_ok-standing.standing.done.items c.args.line tried.items are.are) c.tried_behind.ensures.tried
