-- How many commands of a list break each rule.
use Rattle.std.specs.Prelude.{◌≡◌, ℕ, ◌==◌, ◌++◌, Bool, List, All, Option, Some, count_by, filter_map, find, map, slice_get, slice_index, take}
use Rattle.std.specs.Option.{option_map, option_to_list}
use Rattle.ddr4_timing.specs.declared.command.Stamped.{Stamped}
use Rattle.ddr4_timing.specs.declared.fault.Fault.{Fault}
use Rattle.ddr4_timing.specs.declared.rules.Rule.{Rule}
use Rattle.ddr4_timing.specs.declared.timing.CommandRules.{CommandRules}
use Rattle.ddr4_timing.specs.Rules.{every_rule, rule_number}
use Rattle.all_faults.specs.Faults.{AreFaultsOf}
use Rattle.command_trace.specs.Reasons.{IsReasonOf}
use Rattle.command_trace.specs.declared.diagnosis.Diagnosis.{Diagnosis}
use Rattle.command_trace.specs.declared.diagnosis.Listed.{Listed}
use Rattle.command_trace.specs.declared.tally.BrokenRule.{BrokenRule}

abbrev pub is_of_rule : Rule → Fault → Bool
is_of_rule rule fault = rule_number fault.rule == rule_number rule

-- how many of the faults are of a rule, and the first of them, where there is one
abbrev pub rule_told : List Fault → Rule → Option (ℕ × Fault)
rule_told faults rule = option_map (λ first. (count_by (is_of_rule rule) faults, first)) (find (is_of_rule rule) faults)

abbrev pub tally_told : BrokenRule → ℕ × Fault
tally_told tally = (tally.count, tally.first.fault)

-- a rule is told behind the others, where one of the faults is of it
abbrev pub AddsTally : List Fault → Rule → List BrokenRule → List BrokenRule → Type 0
AddsTally faults rule old new = map tally_told new ≡ map tally_told old ++ option_to_list (rule_told faults rule)

-- a fault of commands that stand in these lines is told with its two commands and their lines, and with why
pub record IsToldAt (rules : CommandRules) (commands : List Stamped) (lines : List ℕ) (d : Diagnosis) : Type 0 where
  pub first : slice_get commands d.fault.first ≡ Some d.first.command
  pub second : slice_get commands d.fault.second ≡ Some d.second.command
  pub first_line : d.first.line ≡ slice_index lines d.fault.first
  pub second_line : d.second.line ≡ slice_index lines d.fault.second
  pub reason : IsReasonOf rules d.fault.rule (take d.fault.second commands) d.first.command d.second.command d.reason

-- so the first fault of each rule is
abbrev pub AreToldAt : CommandRules → Listed → List BrokenRule → Type 0
AreToldAt rules listed tallies = All (λ tally. IsToldAt rules listed.commands.items listed.lines.items tally.first) tallies

-- what is told is of the faults of the list, rule by rule
pub record AreTallies (rules : CommandRules) (listed : Listed) (tallies : List BrokenRule) : Type 0 where
  pub faults : List Fault
  pub are : AreFaultsOf rules listed.commands.items faults
  pub told : map tally_told tallies ≡ filter_map (rule_told faults) every_rule
  pub first : AreToldAt rules listed tallies
