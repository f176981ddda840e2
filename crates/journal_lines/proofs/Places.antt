-- Which line of a record is which, and its bytes.
use Rattle.std.proofs.Common.{◌≡◌, ℕ, zero, suc, ◌+◌, ◌-◌, ◌*◌, ◌/◌, ◌<◌, ◌≤◌, List, [], ◌∷◌, ◌++◌, length, take, drop, replicate, inl, inr, ap, ◌∙◌, arith}
use Rattle.std.specs.Prelude.{slice_index_or}
use Rattle.std.proofs.lemmas.Bool.{cases_lt}
use Rattle.std.proofs.lemmas.List.{drop-drop, drop-replicate}
use Rattle.std.proofs.lemmas.Nat.{le-div, div_below}
use Rattle.journal_log.specs.Lines.{line_with, lines_from}

pub line_is : (last : ℕ) (bytes first : List ℕ) → first ≡ length bytes ∷ last ∷ replicate 62 0
    → take 2 first ++ (bytes ++ drop (2 + length bytes) first) ≡ line_with last bytes
unfolding line_with
line_is last bytes first is =
    ap (λ (f : List ℕ). take 2 f ++ (bytes ++ drop (2 + length bytes) f)) is
    ∙ ap (λ (n : ℕ). length bytes ∷ last ∷ (bytes ++ drop n (length bytes ∷ last ∷ replicate 62 0))) (let e : 2 + length bytes ≡ suc (suc (length bytes)) = omega arith in e)
    ∙ ap (λ (zeros : List ℕ). length bytes ∷ last ∷ (bytes ++ zeros)) (drop-replicate (length bytes) 62 0)

pub last_line : (more : ℕ) (bytes : List ℕ) → slice_index_or (lines_from more bytes) more [] ≡ line_with 1 (drop (more * 62) bytes)
last_line zero bytes = ap (λ (n : ℕ). line_with 1 (drop n bytes)) (let e : 0 ≡ 0 * 62 = omega arith in e)
last_line (suc more) bytes =
    last_line more (drop 62 bytes) ∙ ap (line_with 1) (drop-drop (more * 62) 62 bytes ∙ ap (λ (n : ℕ). drop n bytes) (let e : 62 + more * 62 ≡ suc more * 62 = omega arith in e))

pub inner_line : (number more : ℕ) (bytes : List ℕ) → number < more → slice_index_or (lines_from more bytes) number [] ≡ line_with 0 (take 62 (drop (number * 62) bytes))
inner_line number zero bytes less = absurd (omega (arith, less))
inner_line zero (suc more) bytes less = ap (λ (n : ℕ). line_with 0 (take 62 (drop n bytes))) (let e : 0 ≡ 0 * 62 = omega arith in e)
inner_line (suc number) (suc more) bytes less =
    inner_line number more (drop 62 bytes) (omega (arith, less))
    ∙ ap (λ (b : List ℕ). line_with 0 (take 62 b)) (drop-drop (number * 62) 62 bytes ∙ ap (λ (n : ℕ). drop n bytes) (let e : 62 + number * 62 ≡ suc number * 62 = omega arith in e))

pub within : (number long : ℕ) → number < (long - 1) / 62 + 1 → number * 62 ≤ long
within number long less =
    elim (cases_lt (long - 1) (number * 62)) [
      | inl short ↦ let below : (long - 1) / 62 < number = div_below (long - 1) 62 number (omega arith) short in absurd (omega (arith, less, below))
      | inr enough ↦ omega (arith, enough)
    ]

pub is_last : (number long : ℕ) → number < (long - 1) / 62 + 1 → long - number * 62 ≤ 62 → (long - 1) / 62 ≡ number
is_last number long less few =
    let below : (long - 1) / 62 < number + 1 = div_below (long - 1) 62 (number + 1) (omega arith) (omega (arith, few)) in
    omega (arith, less, below)

pub is_inner : (number long : ℕ) → 62 < long - number * 62 → number < (long - 1) / 62
is_inner number long many =
    let upto : number + 1 ≤ (long - 1) / 62 = le-div (number + 1) (long - 1) 62 (omega arith) (omega (arith, many)) in
    omega (arith, upto)
