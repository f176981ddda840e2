-- Rules that are told, one more.
use Rattle.std.proofs.Common.{◌≡◌, ◌∙◌, ℕ, ◌+◌, ◌<◌, Bool, true, false, List, [], ◌∷◌, ◌++◌, All, Option, None, Some, map, take, get_or, ap, cond, refl, subst, sym}
use Rattle.std.specs.List.{filter_map, find}
use Rattle.std.specs.Option.{option_to_list}
use Rattle.std.proofs.lemmas.List.{take_more}
use Rattle.std.proofs.lemmas.List.Elements.{All-head, All-tail, filter_map-append}
use Rattle.ddr4_timing.specs.declared.fault.Fault.{Fault}
use Rattle.ddr4_timing.specs.declared.rules.Rule.{Rule}
use Rattle.ddr4_timing.specs.Rules.{every_rule}
use Rattle.command_trace.specs.declared.tally.BrokenRule.{BrokenRule}
use Rattle.command_trace.specs.Tallies.{AddsTally, rule_told, tally_told}

-- what holds of each holds of the one that is found
pub found_holds : (P : Fault → Type 0) (test : Fault → Bool) (faults : List Fault) (found : Fault) → All P faults → find test faults ≡ Some found → P found
found_holds P test [] found all e = absurd cc
found_holds P test (fault ∷ faults) found all e =
    elim (test fault) as (λ (passes : Bool). cond passes (Some fault) (find test faults) ≡ Some found → P found) [
      | true ↦ λ is. let same : fault ≡ found = cc in subst P same (All-head P fault faults all)
      | false ↦ λ is. found_holds P test faults found (All-tail P fault faults all) is
    ] e

one_told : (o : Option (ℕ × Fault)) → filter_map (λ (x : Option (ℕ × Fault)). x) (o ∷ []) ≡ option_to_list o
one_told None = refl
one_told (Some x) = refl

last_told : (faults : List Fault) (rule : Rule) → filter_map (rule_told faults) (rule ∷ []) ≡ option_to_list (rule_told faults rule)
last_told faults rule = one_told (rule_told faults rule)

-- the next rule
pub tally_more : (faults : List Fault) (i : ℕ) (none : Rule) (old new : List BrokenRule) → i < 16 → map tally_told old ≡ filter_map (rule_told faults) (take i every_rule)
    → AddsTally faults (get_or every_rule i none) old new → map tally_told new ≡ filter_map (rule_told faults) (take (i + 1) every_rule)
tally_more faults i none old new here so_far adds =
    let h = rule_told faults in
    adds ∙ ap (λ (front : List (ℕ × Fault)). front ++ option_to_list (h (get_or every_rule i none))) so_far
    ∙ sym (ap (filter_map h) (take_more every_rule i none here) ∙ filter_map-append h (take i every_rule) (get_or every_rule i none ∷ [])
    ∙ ap (λ (last : List (ℕ × Fault)). filter_map h (take i every_rule) ++ last) (last_told faults (get_or every_rule i none)))
