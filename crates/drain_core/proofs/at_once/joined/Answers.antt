use Rattle.std.proofs.Common.{◌≡◌, ◌≢◌, ℕ, ◌+◌, ◌-◌, ◌<◌, ◌≤◌, length, List, get_or, set, None, ⊎_elim, ap, ◌∙◌, sym, arith, rules}
use Rattle.std.proofs.lemmas.List.{get_or-set_same, get_or-set_other}
use Rattle.std.proofs.lemmas.Bool.{cases_eq}
use Rattle.drain_core.proofs.at_once.joined.Goals as goal

-- a list that is like another from a place on, moved by a number, is so one place further after a write of the next element
moved_on : {A : Type 0} (xs ys : List A) (half n i : ℕ) (d : A) → ((j : ℕ) → half ≤ j → j < n → get_or xs j d ≡ get_or ys (j - half) d) → n < length xs
    → half ≤ i → i < n + 1 → get_or (set xs n (get_or ys (n - half) d)) i d ≡ get_or ys (i - half) d
moved_on xs ys half n i d moved room from before =
    ⊎_elim
    (λ (same : i ≡ n). ap (λ k. get_or (set xs n (get_or ys (n - half) d)) k d) same ∙ get_or-set_same xs n (get_or ys (n - half) d) d room ∙ ap (λ k. get_or ys (k - half) d) (sym same))
    (λ (other : i ≢ n). get_or-set_other xs n i (get_or ys (n - half) d) d other ∙ moved i from (omega (arith, other)))
    (cases_eq i n)

pub loop-i-preserved : goal.loop-i-preserved
loop-i-preserved c =
    let loop = c.loop-i in (
      (λ i below. let apart : i ≢ loop.i = (λ (same : i ≡ loop.i). omega (arith, same, below, loop.auto.i)) in get_or-set_other loop.reports loop.i i (get_or c.args.other.now (loop.i - c.args.half) None) None apart ∙ loop.invariant.0 i below),
      (λ i from before. moved_on loop.reports c.args.other.now c.args.half loop.i i None loop.invariant.1 (let n : length loop.reports ≡ 8 = loop.invariant.2 in omega (arith, n)) from before),
      search rules,
    )
