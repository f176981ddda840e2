-- Each rule stands in the list of rules where its number says.
use Rattle.std.proofs.Common.{◌≡◌, ℕ, ◌+◌, ◌-◌, ◌≤◌, ◌<◌, get_or, Some, refl, sym, subst, ◌∙◌, inl, inr, arith, slice_get}
use Rattle.std.proofs.lemmas.Bool.{cases_lt}
use Rattle.std.proofs.lemmas.Option.{get_or_from_slice_get, slice_get_within}
use Rattle.std.proofs.lemmas.List.{get_or-map}
use Rattle.std.proofs.lemmas.List.FromFn.{get_or-range_with_len}
use Rattle.ddr4_timing.proofs.Common.{Order, Rule, every_rule, rule_number}

pub rule_at : (rule : Rule) → slice_get every_rule (rule_number rule - 1) ≡ Some rule
rule_at Order = refl
rule_at rule = refl

pub number_at : (i : ℕ) (none : Rule) → i < 16 → rule_number (get_or every_rule i none) ≡ i + 1
number_at i none h =
    let e : rule_number (get_or every_rule i none) ≡ 1 + i = sym (get_or-map (λ rule. rule_number rule) every_rule i none 0 h) ∙ get_or-range_with_len 1 16 i 0 h in
    omega arith

-- from the rules up to a number to the next one
pub up_to_next : (P : Rule → Type 0) (i : ℕ) (none rule : Rule) → ((r : Rule) → rule_number r ≤ i → P r) → (rule ≡ get_or every_rule i none → P rule) → rule_number rule ≤ i + 1 → P rule
up_to_next P i none rule below here h =
    elim (cases_lt i (rule_number rule)) [
      | inl above ↦
          let e : rule_number rule - 1 ≡ i = omega (arith, above, h) in
          here (sym (get_or_from_slice_get every_rule i rule none (subst (λ (n : ℕ). slice_get every_rule n ≡ Some rule) e (rule_at rule))))
      | inr under ↦ below rule under
    ]

pub number_small : (rule : Rule) → rule_number rule ≤ 16
number_small rule = let within = slice_get_within every_rule (rule_number rule - 1) rule (rule_at rule) in omega (arith, within)
