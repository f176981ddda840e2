-- Words as sets of banks, a bit for each.
use Rattle.std.proofs.Common.{◌≡◌, ◌≢◌, ℕ, ◌*◌, ◌%◌, ◌^◌, ◌<◌, ◌⊎◌, ◌↔◌, inl, inr, arith, bit_and, bit_or, sym, ap, ◌∙◌, w64}
use Rattle.std.specs.Int.{bit_at, bit_not, trailing_zeros}
use Rattle.std.proofs.lemmas.Bool.{cases_eq, cases_lt}
use Rattle.std.proofs.lemmas.Nat.{and_le_l}
use Rattle.std.proofs.lemmas.Nat.Bits.{bit_at-trailing_zeros, bit_at_above, bit_at_clear_other, bit_at_clear_same, bit_at_set_other, bit_at_set_same}

-- one more
pub bit_added : (word k i : ℕ) → k < 64 → ((bit_at (bit_or word (1 * 2 ^ k % 2 ^ 64)) i ≡ 1) ↔ ((i ≡ k) ⊎ (bit_at word i ≡ 1)))
bit_added word k i within = elim (cases_eq i k) [
  | inl same ↦ (λ _. inl same, λ _. ap (λ (j : ℕ). bit_at (bit_or word (1 * 2 ^ k % 2 ^ 64)) j) same ∙ bit_at_set_same w64 word k within)
  | inr differs ↦
      let kept = bit_at_set_other w64 word k within i differs in
      (λ h. inr (sym kept ∙ h), λ h. elim h [ inl same ↦ absurd (differs same) | inr was ↦ kept ∙ was ])
]

-- one taken out

abbrev without : ℕ → ℕ → ℕ
without word k = bit_and word (bit_not w64 (1 * 2 ^ k % 2 ^ 64))

pub bit_gone_below : (word k i : ℕ) → k < 64 → i < 64 → ((bit_at (without word k) i ≡ 1) ↔ ((bit_at word i ≡ 1) × (i ≢ k)))
bit_gone_below word k i within low = elim (cases_eq i k) [
  | inl same ↦
      let gone = ap (λ (j : ℕ). bit_at (without word k) j) same ∙ bit_at_clear_same w64 word k within in
      (λ h. absurd (omega (arith, gone, h)), λ h. absurd (h.1 same))
  | inr differs ↦
      let kept = bit_at_clear_other w64 word k within i low differs in
      (λ h. (sym kept ∙ h, differs), λ h. kept ∙ h.0)
]

bit_gone : (word k i : ℕ) → k < 64 → word < 2 ^ 64 → ((bit_at (without word k) i ≡ 1) ↔ ((bit_at word i ≡ 1) × (i ≢ k)))
bit_gone word k i within few = elim (cases_lt i 64) [
  | inl low ↦ bit_gone_below word k i within low
  | inr high ↦
      let less = and_le_l word (bit_not w64 (1 * 2 ^ k % 2 ^ 64)) in
      let none = bit_at_above word 64 i few high in
      let left = bit_at_above (without word k) 64 i (omega (arith, less, few)) high in
      (λ h. absurd (omega (arith, left, h)), λ h. absurd (omega (arith, none, h.0)))
]

word_less : (word k : ℕ) → k < 64 → bit_at word k ≡ 1 → without word k < word
word_less word k within set =
    let gone : bit_at (without word k) k ≡ 0 = bit_at_clear_same w64 word k within in
    elim (cases_eq (without word k) word) [
      | inl same ↦ absurd (let both : bit_at (without word k) k ≡ bit_at word k = ap (λ (n : ℕ). bit_at n k) same in omega arith)
      | inr other ↦ omega (arith, other, and_le_l word (bit_not w64 (1 * 2 ^ k % 2 ^ 64)))
    ]

pub lowest_taken : (word : ℕ) → 0 < word → word < 2 ^ 64 →
    (trailing_zeros w64 word < 64) × (bit_at word (trailing_zeros w64 word) ≡ 1)
    × ((i : ℕ) → ((bit_at (without word (trailing_zeros w64 word)) i ≡ 1) ↔ ((bit_at word i ≡ 1) × (i ≢ trailing_zeros w64 word))))
    × (without word (trailing_zeros w64 word) < word)
lowest_taken word some few =
    let k = trailing_zeros w64 word in
    let (within, set, first) = bit_at-trailing_zeros w64 word some few in
    (within, set, λ i. bit_gone word k i within few, word_less word k within set)

-- a word that isn't zero has a bit
pub some_bit : (word : ℕ) → 0 < word → word < 2 ^ 64 → (i : ℕ) × (i < 64) × (bit_at word i ≡ 1)
some_bit word some few = let (within, set, first) = bit_at-trailing_zeros w64 word some few in (trailing_zeros w64 word, within, set)
