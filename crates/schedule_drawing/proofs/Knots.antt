-- The knots of an axis.
use Rattle.std.proofs.Common.{◌≡◌, ◌∙◌, ◌≤◌, ◌<◌, ℕ, zero, suc, List, [], ◌∷◌, true, false, length, map, get_or, nat_le, eqb, inl, inr, arith, refl, sym, ap, subst}
use Rattle.std.specs.Prelude.{Contains}
use Rattle.std.specs.List.{dedup}
use Rattle.std.specs.List.Sorted.{IsNonDecreasingBy, IsPermutation, IsSorted, IsStrictlyIncreasing}
use Rattle.std.specs.Ordering.{nat_cmp}
use Rattle.std.proofs.Math.Nat.{eq-or-lt_of_le}
use Rattle.std.proofs.lemmas.List.{get_or-map, length-map}
use Rattle.std.proofs.lemmas.List.Kept.{AllPairs-from_increasing, Contains-dedup_nat, Contains-from_dedup}
use Rattle.std.proofs.lemmas.List.Sorted.{Contains-permutation, IsPermutation-sym}
use Rattle.std.proofs.lemmas.Map.Keys.{IsStrictlyIncreasing-dedup}
use Rattle.schedule_drawing.specs.declared.axis.Knot.{Knot}
use Rattle.schedule_drawing.specs.Axes.{AreInOrder, knot_behind, knots_from, x_from}

-- numbers in their order, by a sort and by leaving out what comes again
pub in-order : (numbers sorted ordered : List ℕ) → IsPermutation numbers sorted → IsSorted nat_cmp sorted → ordered ≡ dedup eqb sorted → AreInOrder numbers ordered
in-order numbers sorted ordered moved rising left = record {
  rise = subst IsStrictlyIncreasing (sym left) (IsStrictlyIncreasing-dedup sorted rising);
  each = λ n. (
    λ held. Contains-permutation sorted numbers n (IsPermutation-sym numbers sorted moved)
        (Contains-from_dedup eqb sorted n (subst (λ (xs : List ℕ). Contains xs n) left held)),
    λ held. subst (λ (xs : List ℕ). Contains xs n) (sym left)
        (Contains-dedup_nat sorted n (Contains-permutation numbers sorted n moved held)),
  );
}

-- each clock has its knot
clocks-kept : (last : Knot) (clocks : List ℕ) → map (λ (knot : Knot). knot.clock) (knots_from last clocks) ≡ clocks
clocks-kept last [] = refl
clocks-kept last (clock ∷ clocks) = ap (λ (l : List ℕ). clock ∷ l) (clocks-kept (knot_behind last clock) clocks)

rising-far : (xs : List ℕ) → IsStrictlyIncreasing xs → (i j d : ℕ) → i ≤ j → j < length xs → get_or xs i d ≤ get_or xs j d
rising-far xs rise i j d upto within =
    elim (eq-or-lt_of_le upto) [
      | inl same ↦ rw same (omega arith)
      | inr before ↦ omega (arith, AllPairs-from_increasing xs rise i j d before within)
    ]

-- clocks that rise have knots that do
pub knots_rise : (numbers clocks : List ℕ) (last : Knot) (knots : List Knot) → AreInOrder numbers clocks → knots ≡ knots_from last clocks
    → IsNonDecreasingBy (λ (knot : Knot). knot.clock) knots
knots_rise numbers clocks last knots ordered are = λ i j d upto within.
    let kept : map (λ (knot : Knot). knot.clock) knots ≡ clocks = ap (λ (l : List Knot). map (λ (knot : Knot). knot.clock) l) are ∙ clocks-kept last clocks in
    let long : length clocks ≡ length knots = ap length (sym kept) ∙ length-map knots (λ (knot : Knot). knot.clock) in
    let far : get_or clocks i d.clock ≤ get_or clocks j d.clock = rising-far clocks ordered.rise i j d.clock upto (omega (arith, long, within)) in
    let low : get_or clocks i d.clock ≡ (get_or knots i d).clock =
    ap (λ (l : List ℕ). get_or l i d.clock) (sym kept) ∙ get_or-map (λ (knot : Knot). knot.clock) knots i d d.clock (omega (arith, upto, within)) in
    let high : get_or clocks j d.clock ≡ (get_or knots j d).clock =
    ap (λ (l : List ℕ). get_or l j d.clock) (sym kept) ∙ get_or-map (λ (knot : Knot). knot.clock) knots j d d.clock within in
    omega (arith, far, low, high)

-- no knot up to the clock
pub x-none : (xs : List Knot) (clock x : ℕ) → ((k : ℕ) (e : Knot) → k < length xs → nat_le (get_or xs k e).clock clock ≡ false) → x_from x xs clock ≡ x
x-none [] clock x later = refl
x-none (first ∷ rest) clock x later = rw (later 0 first (omega arith)) refl

-- the last one up to it
pub x-last : (j : ℕ) (xs : List Knot) (clock x : ℕ) (d : Knot) → j < length xs
    → ((k : ℕ) (e : Knot) → k ≤ j → nat_le (get_or xs k e).clock clock ≡ true)
    → ((k : ℕ) (e : Knot) → j < k → k < length xs → nat_le (get_or xs k e).clock clock ≡ false)
    → x_from x xs clock ≡ (get_or xs j d).x
x-last j [] clock x d within upto behind = absurd (omega (arith, within))
x-last zero (first ∷ rest) clock x d within upto behind =
    rw (upto 0 first (omega arith))
    (x-none rest clock first.x (λ k e high. behind (suc k) e (omega arith) (omega (arith, high))))
x-last (suc j) (first ∷ rest) clock x d within upto behind =
    rw (upto 0 first (omega arith))
    (x-last j rest clock first.x d (omega (arith, within)) (λ k e at. upto (suc k) e (omega (arith, at)))
    (λ k e past high. behind (suc k) e (omega (arith, past)) (omega (arith, high))))
