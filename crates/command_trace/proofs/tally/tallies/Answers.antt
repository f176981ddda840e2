use Rattle.std.proofs.Common.{List, get_or, subst}
use Rattle.ddr4_timing.specs.declared.fault.Fault.{Fault}
use Rattle.ddr4_timing.specs.declared.rules.Rule.TheVariants.{Order}
use Rattle.ddr4_timing.specs.Rules.{every_rule}
use Rattle.command_trace.specs.Tallies.{AddsTally}
use Rattle.command_trace.proofs.TallyLemmas.{tally_more}
use Rattle.command_trace.proofs.tally.tallies.Goals as goal

pub loop-rule-preserved : goal.loop-rule-preserved
loop-rule-preserved c = record {
  told = tally_more c.in_ok-faults.faults.items c.loop-rule.rule-index Order c.loop-rule.tallies.items c.add_tally.new.tallies.items c.loop-rule-test.true c.loop-rule.invariant.told
      (subst (λ (faults : List Fault). AddsTally faults (get_or every_rule c.loop-rule.rule-index Order) c.loop-rule.tallies.items c.add_tally.new.tallies.items)
      c.deref-in-loop-rule.ensures.value c.in_ok-add_tally.ensures.adds);
  first = c.in_ok-add_tally.ensures.first c.loop-rule.invariant.first;
}
