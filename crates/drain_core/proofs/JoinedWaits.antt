-- The waits of channels side by side, joined.
use Rattle.std.proofs.Common.{◌≡◌, ℕ, ◌+◌, ◌-◌, ◌<◌, ◌≤◌, List, ◌++◌, length, length-append, inl, inr, ap, ◌∙◌, subst, arith}
use Rattle.std.proofs.lemmas.Bool.{cases_order}

module _ (P : ℕ → Type 0) (X : Type 0) (all left right : List X) (first half : ℕ) (whole : all ≡ left ++ right) (count : length left ≡ half)
    (front : (i : ℕ) → i < length left → P (first + i)) (back : (i : ℕ) → i < length right → P (first + half + i)) where
  lengths : length all ≡ half + length right
  lengths = ap length whole ∙ length-append left right ∙ ap (λ n. n + length right) count

  of_back : (i : ℕ) → half ≤ i → i < length all → P (first + i)
  of_back i past within = subst P (omega (arith, past)) (back (i - half) (omega (arith, past, within, lengths)))

  -- what is so of each place of both is so of each place of all
  pub waits_join : (i : ℕ) → i < length all → P (first + i)
  waits_join i within = elim (cases_order i half) [
    | inl same ↦ of_back i (omega (arith, same)) within
    | inr (inl less) ↦ front i (omega (arith, less, count))
    | inr (inr more) ↦ of_back i (omega (arith, more)) within
  ]
