-- A power of two, by its lowest digit that is set.
use Rattle.std.proofs.Common.{◌≡◌, ℕ, ◌+◌, ◌*◌, ◌/◌, ◌%◌, ◌^◌, ◌<◌, zero, suc, sym, ap, ◌∙◌, arith, IsTrue}
use Rattle.std.specs.Int.{bit_at, is_power_of_two, trailing_zeros, w64}
use Rattle.std.specs.Int.Count.{ones}
use Rattle.std.proofs.Math.Nat.{mod-lt, pow-suc}
use Rattle.std.proofs.lemmas.Bool.{eqb-true}
use Rattle.std.proofs.lemmas.Nat.{div-add-mod', ones_cat, zero_from_ones}
use Rattle.std.proofs.lemmas.Nat.Bits.{bit_at-suc, bit_at-trailing_zeros, bit_at_lowest}

-- the digits of a number, its lowest one apart
ones_above : (n r : ℕ) → n % 2 ≡ r → ones n ≡ ones (n / 2) + ones r
ones_above n r low =
    sym (ap ones (div-add-mod' n 2)) ∙ (ones_cat 1 (n / 2) (n % 2) (mod-lt n (omega arith)) ∙ ap (λ (k : ℕ). ones (n / 2) + ones k) low)

one_digit : (t n : ℕ) → bit_at n t ≡ 1 → ((i : ℕ) → i < t → bit_at n i ≡ 0) → ones n ≡ 1 → n ≡ 2 ^ t
unfolding ones
one_digit zero n set clear one =
    let low : n % 2 ≡ 1 = sym (bit_at_lowest n) ∙ set in
    let rest = ones_above n 1 low in
    let none : ones (n / 2) ≡ 0 = omega (arith, rest, one) in
    let high = zero_from_ones (n / 2) none in
    omega (arith, low, high, div-add-mod' n 2)
one_digit (suc t) n set clear one =
    let low : n % 2 ≡ 0 = sym (bit_at_lowest n) ∙ clear 0 (omega arith) in
    let rest = ones_above n 0 low in
    let half = one_digit t (n / 2) (sym (bit_at-suc n t) ∙ set) (λ i less. sym (bit_at-suc n i) ∙ clear (suc i) (omega (arith, less))) (omega (arith, rest, one)) in
    let double : 2 ^ suc t ≡ 2 ^ t * 2 = pow-suc 2 t in
    omega (arith, low, half, double, div-add-mod' n 2)

-- a number with one digit set, which is the lowest one
pub power_at : (n : ℕ) → n < 2 ^ 64 → IsTrue (is_power_of_two n) → (trailing_zeros w64 n < 64) × (n ≡ 2 ^ trailing_zeros w64 n)
unfolding ones
power_at zero few power = absurd (let none : ⊥ = cc in none)
power_at (suc n) few power =
    let lowest = bit_at-trailing_zeros w64 (suc n) (omega arith) few in
    (lowest.0, one_digit (trailing_zeros w64 (suc n)) (suc n) lowest.1 lowest.2 (eqb-true _ _ power))
