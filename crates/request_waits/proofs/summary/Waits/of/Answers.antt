use Rattle.std.proofs.Common.{List, ℕ, rules, subst, sym}
use Rattle.std.proofs.lemmas.List.Sorted.{IsNonDecreasingBy-from_sort}
use Rattle.std.specs.List.Sorted.{IsNonDecreasing, IsPermutation}
use Rattle.request_waits.proofs.Percentiles.{numbers_of}
use Rattle.request_waits.proofs.summary.Waits.of.Goals as goal

pub percentile-requires-clause-rising : goal.percentile-requires-clause-rising
percentile-requires-clause-rising c =
    subst (λ (xs : List ℕ). IsNonDecreasing xs) (sym c.as_slice-rising.ensures.value) (IsNonDecreasingBy-from_sort (λ x. x) _ c.in_ok-sort.ensures.sorted)

pub percentile-requires-2-clause-rising : goal.percentile-requires-2-clause-rising
percentile-requires-2-clause-rising c =
    subst (λ (xs : List ℕ). IsNonDecreasing xs) (sym c.as_slice-rising.ensures.value) (IsNonDecreasingBy-from_sort (λ x. x) _ c.in_ok-sort.ensures.sorted)

pub returns : goal.returns
returns c =
    numbers_of c.args.waits.items c.as_slice-rising.result.now
    (subst (λ (xs : List ℕ). IsPermutation c.args.waits.items xs) (sym c.as_slice-rising.ensures.value) c.in_ok-sort.ensures.permutation)
    (subst (λ (xs : List ℕ). IsNonDecreasing xs) (sym c.as_slice-rising.ensures.value) (IsNonDecreasingBy-from_sort (λ x. x) _ c.in_ok-sort.ensures.sorted))
    (search rules) c.percentile.result c.percentile-2.result c.percentile.ensures c.percentile-2.ensures
