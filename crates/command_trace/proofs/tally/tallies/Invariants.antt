use Rattle.std.proofs.Common.{◌≡◌, map, take}
use Rattle.std.specs.List.{filter_map}
use Rattle.ddr4_timing.specs.Rules.{every_rule}
use Rattle.command_trace.specs.Tallies.{AreToldAt, rule_told, tally_told}
use Rattle.command_trace.proofs.tally.tallies.Given as goal

abbrev pub invariant-loop-rule : goal.invariant-loop-rule
invariant-loop-rule l = record {
  told : map tally_told l.tallies.items ≡ filter_map (rule_told l.faults.items) (take l.rule-index every_rule);
  first : AreToldAt l.rules l.listed l.tallies.items;
}
