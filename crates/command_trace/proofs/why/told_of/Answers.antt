use Rattle.std.proofs.Common.{List, subst}
use Rattle.ddr4_timing.specs.Lawful.{MayComeNext, ObeysRule, ObeysRulesBefore}
use Rattle.ddr4_timing.specs.declared.command.Stamped.{Stamped}
use Rattle.command_trace.proofs.why.told_of.Goals as goal

pub returns-in-Some : goal.returns-in-Some
returns-in-Some c u listed lined may =
    let rules = c.args.rules.now in
    let x = c.args.last.now.command in
    c.told_by_rule.ensures u listed lined (
      subst (λ (l : List Stamped). ¬ ObeysRule rules.timing rules.geometry l x c.in-Some.broken.0 c.in-Some.broken.1) listed c.in-Some.ensures.found,
      subst (λ (l : List Stamped). ObeysRulesBefore rules.timing rules.geometry l x c.in-Some.broken.0 c.in-Some.broken.1) listed c.in-Some.ensures.least,
    )

pub returns-in-None : goal.returns-in-None
returns-in-None c u listed lined may =
    let rules = c.args.rules.now in
    let next = subst (λ (l : List Stamped). MayComeNext rules.timing rules.geometry l c.args.last.now.command) listed c.in-None.ensures.none in
    c.told_by_bank.ensures u listed next (λ late. may (next, late))
