-- The numbers of a list that doesn't fall, and of its other orders.
use Rattle.std.proofs.Common.{◌≡◌, ◌∙◌, ℕ, zero, suc, ◌+◌, ◌-◌, ◌*◌, ◌/◌, ◌<◌, ◌≤◌, Bool, true, false, cond, List, [], ◌∷◌, IsPermutation, count_by, get_or, length, nat_le, ap, arith, subst}
use Rattle.std.proofs.Math.Nat.{mul-le-mul_left}
use Rattle.std.proofs.lemmas.Bool.{le-leb, lt-leb}
use Rattle.std.proofs.lemmas.List.{get_or_default}
use Rattle.std.proofs.lemmas.List.Elements.{Contains-get_or}
use Rattle.std.proofs.lemmas.List.Sorted.{All-permutation, Contains-permutation, IsPermutation-sym, length_permutation, sum_by-IsPermutation}
use Rattle.std.proofs.lemmas.List.Sums.{sum_by-cons}
use Rattle.std.specs.List.Sorted.{IsNonDecreasing}
use Rattle.request_waits.specs.Summary.{AreOf, IsPercentile, up_to}

count_yes : (p : ℕ → Bool) (x : ℕ) (xs : List ℕ) → p x ≡ true → count_by p (x ∷ xs) ≡ 1 + count_by p xs
count_yes p x xs is = sum_by-cons (λ (y : ℕ). cond (p y) 1 0) x xs ∙ ap (λ (b : Bool). cond b 1 0 + count_by p xs) is

count_no : (p : ℕ → Bool) (x : ℕ) (xs : List ℕ) → p x ≡ false → count_by p (x ∷ xs) ≡ 0 + count_by p xs
count_no p x xs is = sum_by-cons (λ (y : ℕ). cond (p y) 1 0) x xs ∙ ap (λ (b : Bool). cond b 1 0 + count_by p xs) is

one_most : (b : Bool) → cond b 1 0 ≤ 1
one_most true = omega arith
one_most false = omega arith

-- those up to an index pass
passes_first : (p : ℕ → Bool) (xs : List ℕ) (i : ℕ) → i < length xs → ((k : ℕ) → k ≤ i → p (get_or xs k 0) ≡ true) → i + 1 ≤ count_by p xs
passes_first p [] i inside so = absurd (omega arith)
passes_first p (x ∷ xs) zero inside so =
    let e = count_yes p x xs (so 0 (omega arith)) in omega (arith, e)
passes_first p (x ∷ xs) (suc i) inside so =
    let rest = passes_first p xs i (omega arith) (λ k le. so (suc k) (omega arith)) in
    let e = count_yes p x xs (so 0 (omega arith)) in omega (arith, e, rest)

-- those from an index on don't
fails_behind : (p : ℕ → Bool) (xs : List ℕ) (i : ℕ) → ((k : ℕ) → i ≤ k → k < length xs → p (get_or xs k 0) ≡ false) → count_by p xs ≤ i
fails_behind p [] i so = omega arith
fails_behind p (x ∷ xs) zero so =
    let rest = fails_behind p xs zero (λ k le inside. so (suc k) (omega arith) (omega arith)) in
    let e = count_no p x xs (so 0 (omega arith) (omega arith)) in omega (arith, e, rest)
fails_behind p (x ∷ xs) (suc i) so =
    let rest = fails_behind p xs i (λ k le inside. so (suc k) (omega arith) (omega arith)) in
    let e = sum_by-cons (λ (y : ℕ). cond (p y) 1 0) x xs in let one = one_most (p x) in omega (arith, e, one, rest)

-- the place of a percentile among so many
pub record IsRank (n percent i : ℕ) : Type 0 where
  pub inside : i < n
  pub reached : percent * n ≤ 100 * (i + 1)
  pub early : 100 * i < percent * n

pub rank_of : (n percent : ℕ) → 0 < n → 0 < percent → percent ≤ 100 → IsRank n percent ((n * percent - 1) / 100)
rank_of n percent some positive share =
    let least : n * 1 ≤ n * percent = mul-le-mul_left n positive in
    let most : n * percent ≤ n * 100 = mul-le-mul_left n share in
    record { inside = omega (arith, least, most); reached = omega (arith, least, most); early = omega (arith, least, most) }

pub percentile_at : (xs : List ℕ) (percent i : ℕ) → IsNonDecreasing xs → IsRank (length xs) percent i → IsPercentile percent xs (get_or xs i 0)
percentile_at xs percent i rising rank = record {
  among = Contains-get_or xs i 0 rank.inside;
  reached =
      let value = get_or xs i 0 in
      let enough = passes_first (λ x. nat_le x value) xs i rank.inside (λ k le. le-leb (get_or xs k 0) value (rising k i 0 le rank.inside)) in
      omega (arith, enough, rank.reached);
  least = λ other below.
      let few = fails_behind (λ x. nat_le x other) xs i (λ k le inside. lt-leb (get_or xs k 0) other (let up = rising i k 0 le inside in omega (arith, up, below))) in
      omega (arith, few, rank.early);
}

same_count : (n : ℕ) (xs ys : List ℕ) → IsPermutation xs ys → up_to n ys ≡ up_to n xs
same_count n xs ys moved = sum_by-IsPermutation (λ (x : ℕ). cond (nat_le x n) 1 0) xs ys moved

percentile_moves : (xs ys : List ℕ) → IsPermutation xs ys → (percent value : ℕ) → IsPercentile percent ys value → IsPercentile percent xs value
percentile_moves xs ys moved percent value is =
    let size = length_permutation xs ys moved in
    record {
      among = Contains-permutation ys xs value (IsPermutation-sym xs ys moved) is.among;
      reached =
          subst (λ (n : ℕ). percent * n ≤ 100 * up_to value xs) size
          (subst (λ (n : ℕ). percent * length ys ≤ 100 * n) (same_count value xs ys moved) is.reached);
      least = λ other below.
          subst (λ (n : ℕ). 100 * up_to other xs < percent * n) size
          (subst (λ (n : ℕ). 100 * n < percent * length ys) (same_count other xs ys moved) (is.least other below));
    }

pub numbers_of : (xs ys : List ℕ) → IsPermutation xs ys → IsNonDecreasing ys → 0 < length ys → (median p99 : ℕ) → IsPercentile 50 ys median → IsPercentile 99 ys p99
    → AreOf xs (record { count = length ys; least = get_or ys 0 0; median = median; p99 = p99; most = get_or ys (length ys - 1) 0 })
numbers_of xs ys moved rising some median p99 at50 at99 =
    let back = IsPermutation-sym xs ys moved in
    let last : length ys - 1 < length ys = omega arith in
    record {
      count = length_permutation xs ys moved;
      least = record {
        among = Contains-permutation ys xs (get_or ys 0 0) back (Contains-get_or ys 0 0 some);
        below = All-permutation (λ (x : ℕ). get_or ys 0 0 ≤ x) ys xs back
            (λ k d inside. subst (λ (x : ℕ). get_or ys 0 0 ≤ x) (get_or_default ys k 0 d inside) (rising 0 k 0 (omega arith) inside));
      };
      median = percentile_moves xs ys moved 50 median at50;
      p99 = percentile_moves xs ys moved 99 p99 at99;
      most = record {
        among = Contains-permutation ys xs (get_or ys (length ys - 1) 0) back (Contains-get_or ys (length ys - 1) 0 last);
        above = All-permutation (λ (x : ℕ). x ≤ get_or ys (length ys - 1) 0) ys xs back
            (λ k d inside. subst (λ (x : ℕ). x ≤ get_or ys (length ys - 1) 0) (get_or_default ys k 0 d inside) (rising k (length ys - 1) 0 (omega arith) last));
      };
    }
