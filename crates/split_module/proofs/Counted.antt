-- How many elements of a list pass a test, by its first one.
use Rattle.std.specs.Prelude.{count_by}
use Rattle.std.proofs.Common.{Bool, List, ap, arith, cond, false, suc, true, ℕ, ◌+◌, ◌∷◌, ◌≡◌}
use Rattle.std.proofs.lemmas.List.Sums.{sum_by-cons}

abbrev pub one_if : Bool → ℕ
one_if b = cond b 1 0

module _ {X : Type 0} where
  -- how many pass, by the first element
  pub counted : (test : X → Bool) (x : X) (xs : List X) → count_by test (x ∷ xs) ≡ one_if (test x) + count_by test xs
  counted test x xs = sum_by-cons (λ (y : X). cond (test y) 1 0) x xs

  pub counted_yes : (test : X → Bool) (x : X) (xs : List X) → test x ≡ true → count_by test (x ∷ xs) ≡ suc (count_by test xs)
  counted_yes test x xs is = let one : one_if (test x) ≡ 1 = ap one_if is in omega (arith, counted test x xs, one)

  pub counted_no : (test : X → Bool) (x : X) (xs : List X) → test x ≡ false → count_by test (x ∷ xs) ≡ count_by test xs
  counted_no test x xs is = let none : one_if (test x) ≡ 0 = ap one_if is in omega (arith, counted test x xs, none)
