-- Numbers by their digits, of which each has a base of its own.
use Rattle.std.proofs.Common.{◌≡◌, ℕ, ◌+◌, ◌*◌, ◌/◌, ◌%◌, ◌<◌, ◌≤◌, inl, inr, sym, ap, ◌∙◌, arith}
use Rattle.std.proofs.lemmas.Nat.{div-mul-add, mod-mul-add}
use Rattle.std.proofs.Math.Nat.{mul-le-mul_left, eq-zero-or-pos}

-- a product that isn't 0 has no factor 0
pub left_factor : (a b : ℕ) → 1 ≤ a * b → 1 ≤ a
left_factor a b some = elim (eq-zero-or-pos a) [
  | inl none ↦ grind arith
  | inr more ↦ omega (arith, more)
]

pub right_factor : (a b : ℕ) → 1 ≤ a * b → 1 ≤ b
right_factor a b some = elim (eq-zero-or-pos b) [
  | inl none ↦ grind arith
  | inr more ↦ omega (arith, more)
]

-- a number is no more than it is with a digit behind it
pub le_with_digit : (a base digit : ℕ) → 1 ≤ base → a ≤ a * base + digit
le_with_digit a base digit some = let e = mul-le-mul_left a some in omega (arith, e)

-- a number and its last digit
pub record SameDigits (a b c d : ℕ) : Type 0 where
  pub front : a ≡ c
  pub last : b ≡ d

pub same_digits : (base a b c d : ℕ) → b < base → d < base → a * base + b ≡ c * base + d → SameDigits a b c d
same_digits base a b c d bh dh same = record {
  front = sym (div-mul-add a base b bh) ∙ (ap (λ n. n / base) same ∙ div-mul-add c base d dh);
  last = sym (mod-mul-add a base b bh) ∙ (ap (λ n. n % base) same ∙ mod-mul-add c base d dh);
}
