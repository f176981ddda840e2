use Rattle.std.proofs.Common.{◌∙◌, ◌<◌, List, length, subst, sym}
use Rattle.ddr4_timing.specs.declared.command.Stamped.{Stamped}
use Rattle.all_faults.specs.Faults.{IsFaultOf}
use Rattle.command_trace.specs.Tallies.{is_of_rule}
use Rattle.command_trace.proofs.TallyLemmas.{found_holds}
use Rattle.command_trace.proofs.tally.add_tally.Goals as goal

pub told_at-first-requires-clause-order : goal.told_at-first-requires-clause-order
told_at-first-requires-clause-order c =
    let fault : IsFaultOf c.args.rules.now c.args.listed.now.commands.items c.in-Some.first = found_holds (IsFaultOf c.args.rules.now c.args.listed.now.commands.items)
    (is_of_rule c.args.rule) c.args.faults.now c.in-Some.first c.requires.are (sym c.first_of_rule.ensures ∙ c.in-Some.is) in
    fault.order

pub told_at-first-requires-clause-within : goal.told_at-first-requires-clause-within
told_at-first-requires-clause-within c =
    let fault : IsFaultOf c.args.rules.now c.args.listed.now.commands.items c.in-Some.first = found_holds (IsFaultOf c.args.rules.now c.args.listed.now.commands.items)
    (is_of_rule c.args.rule) c.args.faults.now c.in-Some.first c.requires.are (sym c.first_of_rule.ensures ∙ c.in-Some.is) in
    subst (λ (commands : List Stamped). c.in-Some.first.second < length commands) (sym c.deref.ensures.value) fault.within
