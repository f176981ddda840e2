-- The three numbers of a head.
use Rattle.std.proofs.Common.{◌≡◌, ◌∙◌, ◌+◌, ◌++◌, ◌<◌, ◌^◌, ℕ, List, ap, drop, length, replicate, take}
use Rattle.std.specs.Int.{w64, from_le_bytes, to_le_bytes}
use Rattle.std.proofs.lemmas.Nat.{from_le_bytes-to_le_bytes_8}
use Rattle.journal_log.specs.Log.{head_line}

abbrev put_at : ℕ → List ℕ → List ℕ → List ℕ
put_at at bytes line = take at line ++ (bytes ++ drop (at + length bytes) line)

-- three numbers written one behind another into a line of zeros
pub written : (gone first used : ℕ) (a b c one two three : List ℕ) → a ≡ to_le_bytes w64 gone → b ≡ to_le_bytes w64 first → c ≡ to_le_bytes w64 used
    → one ≡ put_at 0 a (replicate 64 0) → two ≡ put_at 8 b one → three ≡ put_at 16 c two → three ≡ head_line gone first used
unfolding head_line
written gone first used a b c one two three is_a is_b is_c is_one is_two is_three =
    is_three
    ∙ ap (λ (bytes : List ℕ). put_at 16 bytes two) is_c
    ∙ ap (put_at 16 (to_le_bytes w64 used)) (is_two
    ∙ ap (λ (bytes : List ℕ). put_at 8 bytes one) is_b
    ∙ ap (put_at 8 (to_le_bytes w64 first)) (is_one ∙ ap (λ (bytes : List ℕ). put_at 0 bytes (replicate 64 0)) is_a))

pub first_word : (gone first used : ℕ) → gone < 2 ^ 64 → from_le_bytes w64 (take 8 (drop 0 (head_line gone first used))) ≡ gone
unfolding head_line
first_word gone first used fits = from_le_bytes-to_le_bytes_8 gone fits

pub second_word : (gone first used : ℕ) → first < 2 ^ 64 → from_le_bytes w64 (take 8 (drop 8 (head_line gone first used))) ≡ first
unfolding head_line
second_word gone first used fits = from_le_bytes-to_le_bytes_8 first fits

pub third_word : (gone first used : ℕ) → used < 2 ^ 64 → from_le_bytes w64 (take 8 (drop 16 (head_line gone first used))) ≡ used
unfolding head_line
third_word gone first used fits = from_le_bytes-to_le_bytes_8 used fits
