-- Counts, one more at a time.
use Rattle.std.proofs.Common.{◌≡◌, ◌∙◌, ℕ, ◌+◌, ◌-◌, ◌^◌, min, max, Bool, true, false, not, cond, List, [], ◌∷◌, ◌++◌, All, fold, refl, ap, arith}
use Rattle.std.specs.List.{filter}
use Rattle.std.proofs.lemmas.List.{append-nil, length_push}
use Rattle.std.proofs.lemmas.List.Elements.{All-head, All-tail, filter-append}
use Rattle.std.proofs.lemmas.List.Sums.{fold-append}
use Rattle.nv_script.specs.declared.line.ScriptLine.{ScriptLine}
use Rattle.crash_table.specs.declared.tried.Tried.{Tried}
use Rattle.crash_table.specs.Counting.{complete_ones, is_complete, missing, most_missing, number_of, other_ones}
use Rattle.crash_table.specs.Outcomes.{IsTried}
use Rattle.crash_table.proofs.Runs.{complete_lacks_none}
use Rattle.crash_table.specs.Stops.{stopped_lines}

most_more : (test : Tried → Bool) (tried : List Tried) (one : Tried)
    → most_missing (filter test (tried ++ one ∷ [])) ≡ cond (test one) (max (most_missing (filter test tried)) (missing one.outcome)) (most_missing (filter test tried))
most_more test tried one =
    ap most_missing (filter-append test tried (one ∷ []))
    ∙ elim (test one) as (λ (b : Bool). most_missing (filter test tried ++ cond b (one ∷ []) []) ≡ cond b (max (most_missing (filter test tried)) (missing one.outcome)) (most_missing (filter test tried))) [
      | true ↦ fold-append (λ (most : ℕ) (x : Tried). max most (missing x.outcome)) 0 (filter test tried) (one ∷ [])
      | false ↦ ap most_missing (append-nil (filter test tried))
    ]

pub complete_more : (tried : List Tried) (one : Tried)
    → most_missing (complete_ones (tried ++ one ∷ [])) ≡ cond (is_complete one.outcome.found) (max (most_missing (complete_ones tried)) (missing one.outcome)) (most_missing (complete_ones tried))
complete_more tried one = most_more (λ (x : Tried). is_complete x.outcome.found) tried one

pub other_more : (tried : List Tried) (one : Tried)
    → most_missing (other_ones (tried ++ one ∷ [])) ≡ cond (not (is_complete one.outcome.found)) (max (most_missing (other_ones tried)) (missing one.outcome)) (most_missing (other_ones tried))
other_more tried one = most_more (λ (x : Tried). not (is_complete x.outcome.found)) tried one

pub number_more : (tried : List Tried) (one : Tried) → number_of (tried ++ one ∷ []) ≡ min (number_of tried + 1) (2 ^ 64 - 1)
number_more tried one = ap (λ (n : ℕ). min n (2 ^ 64 - 1)) (length_push tried one) ∙ omega arith

none_more : (complete : Bool) (one : Tried) (rest : List Tried) → (complete ≡ true → missing one.outcome ≡ 0) → most_missing rest ≡ 0 → most_missing (cond complete (one ∷ rest) rest) ≡ 0
none_more true one rest none e = ap (λ (n : ℕ). fold (λ (most : ℕ) (x : Tried). max most (missing x.outcome)) (max 0 n) rest) (none refl) ∙ e
none_more false one rest none e = e

-- of what was tried of a line, those that are told Complete lack nothing
pub complete_none : (size : ℕ) (before : List ScriptLine) (last : ScriptLine) (tried : List Tried) → All (IsTried size before last) tried → most_missing (complete_ones tried) ≡ 0
complete_none size before last [] are = refl
complete_none size before last (one ∷ tried) are =
    let P : Tried → Type 0 = IsTried size before last in
    none_more (is_complete one.outcome.found) one (complete_ones tried)
    (complete_lacks_none size (stopped_lines before last one.stop) one.pick one.outcome (All-head P one tried are))
    (complete_none size before last tried (All-tail P one tried are))
