use Rattle.std.proofs.Common.{◌++◌, subst, sym}
use Rattle.crash_table.specs.Outcomes.{EndsWithFault}
use Rattle.crash_table.proofs.Ending.{ends_with_last}
use Rattle.crash_table.proofs.answers.ends_behind.Goals as goal

pub returns : goal.returns
returns c = λ before ends.
    let given = c.args.answers.now in
    subst (EndsWithFault (before ++ given)) (sym c.tells_fault.ensures) (ends_with_last before given c.in-Some.last.now (sym c.in-Some.ensures.value))
