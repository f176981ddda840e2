-- The number that the digits of a word write, one after another.
use Rattle.std.proofs.Common.{◌≡◌, ℕ, ◌+◌, ◌-◌, ◌*◌, ◌%◌, ◌^◌, ◌<◌, ◌≤◌, List, [], ◌∷◌, length, get_or, drop, add-one, arith, lit<, refl, subst, sym}
use Rattle.std.proofs.Math.Nat.{pow-le-pow_right}
use Rattle.std.proofs.Math.Seq.{drop-cons}
use Rattle.std.proofs.lemmas.Grind.{pow_more}
use Rattle.std.proofs.lemmas.List.{drop_all}
use Rattle.std.proofs.lemmas.Str.{digit_value_digit}
use Rattle.std.specs.Char.{digit_value}
use Rattle.std.specs.Str.Parse.{AllDigits, digits_value, digits_value_after}
use Rattle.command_trace.specs.Rows.{IsDecimal}

-- the digits before an index came to this value
pub record HasCome (word : List ℕ) (index value : ℕ) : Type 0 where
  pub before : AllDigits 10 (drop index word) → AllDigits 10 word
  pub behind : AllDigits 10 word → AllDigits 10 (drop index word)
  pub same : digits_value_after 10 value (drop index word) ≡ digits_value 10 word

pub begins : (word : List ℕ) → HasCome word 0 0
begins word = record { before = λ all. all; behind = λ all. all; same = refl }

rest_of : (word : List ℕ) (index : ℕ) → index < length word → drop index word ≡ get_or word index 0 ∷ drop (index + 1) word
rest_of word index within = rw (add-one, drop-cons word index 0)

-- one more digit
pub comes_on : (word : List ℕ) (index value next byte : ℕ) → index < length word → byte ≡ get_or word index 0 → digit_value byte < 10
    → next ≡ value * 10 + digit_value byte → HasCome word index value → HasCome word (index + 1) next
comes_on word index value next byte within is digit next_is h =
    let rest : drop index word ≡ byte ∷ drop (index + 1) word = subst (λ (b : ℕ). drop index word ≡ b ∷ drop (index + 1) word) (sym is) (rest_of word index within) in
    record {
      before = λ all. h.before (subst (AllDigits 10) (sym rest) (digit, all));
      behind = λ all. (subst (AllDigits 10) rest (h.behind all)).1;
      same =
          subst (λ (n : ℕ). digits_value_after 10 n (drop (index + 1) word) ≡ digits_value 10 word) (sym next_is)
          (subst (λ (ds : List ℕ). digits_value_after 10 value ds ≡ digits_value 10 word) rest h.same);
    }

-- a byte that is no digit
pub comes_to_none : (word : List ℕ) (index value byte n : ℕ) → index < length word → byte ≡ get_or word index 0 → (¬ (digit_value byte < 10))
    → HasCome word index value → ¬ IsDecimal word n
comes_to_none word index value byte n within is none h said =
    let rest : drop index word ≡ byte ∷ drop (index + 1) word = subst (λ (b : ℕ). drop index word ≡ b ∷ drop (index + 1) word) (sym is) (rest_of word index within) in
    none (subst (AllDigits 10) rest (h.behind said.numeral.1)).0

-- the last one
pub comes_to_end : (word : List ℕ) (index value : ℕ) → length word ≤ index → 0 < length word → HasCome word index value → IsDecimal word value
comes_to_end word index value past some h =
    let none : drop index word ≡ [] = drop_all index word past in
    record {
      numeral = (some, h.before (subst (AllDigits 10) (sym none) tt));
      value = subst (λ (ds : List ℕ). digits_value_after 10 value ds ≡ digits_value 10 word) none h.same;
    }

-- further digits make no less of a value
no_less : (value : ℕ) (ds : List ℕ) → value ≤ digits_value_after 10 value ds
no_less value [] = omega arith
no_less value (d ∷ ds) = omega (arith, no_less (value * 10 + digit_value d) ds)

-- a value that doesn't fit
pub comes_too_far : (word : List ℕ) (index value byte n : ℕ) → index < length word → byte ≡ get_or word index 0 → digit_value byte < 10
    → 2 ^ 64 ≤ value * 10 + digit_value byte → HasCome word index value → IsDecimal word n → 2 ^ 64 ≤ n
comes_too_far word index value byte n within is digit far h said =
    let next : ℕ = value * 10 + digit_value byte in
    let on = comes_on word index value next byte within is digit refl h in
    let least = no_less next (drop (index + 1) word) in
    omega (arith, on.same, said.value, least)

-- so few digits come to less than 2^64
pub fits_more : (index value digit : ℕ) → index < 19 → value < 10 ^ index → digit < 10 → (value * 10 + digit < 10 ^ (index + 1)) × (value * 10 + digit < 2 ^ 64)
fits_more index value digit few fits small =
    let more : 10 ^ (index + 1) ≡ 10 ^ index * 10 = pow_more 10 index in
    let within : index + 1 ≤ 19 = omega arith in
    let most : 10 ^ (index + 1) ≤ 10 ^ 19 = pow-le-pow_right (lit< tt) within in
    let whole : value * 10 + digit < 10 ^ (index + 1) = omega (arith, more) in
    (whole, omega (arith, most, whole))

-- so a product and a sum that may wrap don't
pub wrapped : (value digit product sum : ℕ) → value * 10 + digit < 2 ^ 64 → product ≡ (value * 10) % 2 ^ 64 → sum ≡ (product + digit) % 2 ^ 64
    → sum ≡ value * 10 + digit
wrapped value digit product sum fits first second = omega (arith, first, second)

-- what a digit is worth
pub digit_worth : (byte : ℕ) → digit_value byte < 10 → 48 ≤ byte → byte ≤ 57 → byte - 48 ≡ digit_value byte
digit_worth byte small least most = let worth = digit_value_digit byte (least, most) in omega (arith, worth)
