-- Counts of lines by their low bits, of a list that grows and shrinks.
use Rattle.std.proofs.Common.{if◌then◌else◌, ◌≡◌, ◌≢◌, ℕ, ◌+◌, ◌-◌, ◌<◌, ◌≤◌, List, [], ◌∷◌, ◌++◌, Bool, All, Some, inl, inr, refl, sym, ap, ◌∙◌, arith, length, replicate, remove, get_or, set, slice_get, get_or-set_same, get_or-set_other}
use Rattle.std.specs.List.{sum_by}
use Rattle.std.proofs.lemmas.Bool.{cases_eq, eq-eqb, ne_eqb}
use Rattle.std.proofs.lemmas.List.{get_or-replicate}
use Rattle.std.proofs.lemmas.List.Sums.{count_by-le-length, sum_by-remove, sum_by_push}
use Rattle.std.proofs.lemmas.Option.{get_or_from_slice_get, slice_get_within}
use Rattle.frfcfs.specs.LineCounts.{AreCounts, has_low_bits, low_bits}
use Rattle.frfcfs.specs.declared.line_counts.LineCounts.{LineCounts}

-- one for a line that has the low bits, none for another
abbrev weight : ℕ → ℕ → ℕ
weight bits line = if has_low_bits bits line then 1 else 0

own_weight : (bits line : ℕ) → bits ≡ low_bits line → weight bits line ≡ 1
own_weight bits line same = ap (λ (b : Bool). if b then 1 else 0) (eq-eqb (low_bits line) bits (sym same))

other_weight : (bits line : ℕ) → bits ≢ low_bits line → weight bits line ≡ 0
other_weight bits line differs = ap (λ (b : Bool). if b then 1 else 0) (ne_eqb (low_bits line) bits (λ same. differs (sym same)))

pub counts_none : (counts : LineCounts) → counts.counts ≡ replicate 512 0 → AreCounts [] counts
counts_none counts is bits small = ap (λ (ns : List ℕ). get_or ns bits 0) is ∙ get_or-replicate 512 bits 0 0 small

-- A count is no more than there are lines.
pub counts_few : (lines : List ℕ) (counts : LineCounts) (line : ℕ) → AreCounts lines counts → get_or counts.counts (low_bits line) 0 ≤ length lines
counts_few lines counts line are =
    let was : get_or counts.counts (low_bits line) 0 ≡ sum_by (weight (low_bits line)) lines = are (low_bits line) (omega arith) in
    let few : sum_by (weight (low_bits line)) lines ≤ length lines = count_by-le-length (has_low_bits (low_bits line)) lines in
    omega (arith, was, few)

-- Where a line stands, its low bits are counted.
pub counts_some : (lines : List ℕ) (counts : LineCounts) (place line : ℕ) → AreCounts lines counts → slice_get lines place ≡ Some line → 0 < get_or counts.counts (low_bits line) 0
counts_some lines counts place line are at =
    let was : get_or counts.counts (low_bits line) 0 ≡ sum_by (weight (low_bits line)) lines = are (low_bits line) (omega arith) in
    let rest = sum_by-remove (weight (low_bits line)) lines place line (slice_get_within lines place line at) in
    let own : weight (low_bits line) (get_or lines place line) ≡ 1 = ap (weight (low_bits line)) (get_or_from_slice_get lines place line line at) ∙ own_weight (low_bits line) line refl in
    omega (arith, was, rest, own)

-- Where the low bits of a line are not counted, the line stands nowhere.
pub counts_lack : (lines : List ℕ) (counts : LineCounts) (line : ℕ) → AreCounts lines counts → get_or counts.counts (low_bits line) 0 ≡ 0 → All (λ other. other ≢ line) lines
counts_lack lines counts line are none place d within same =
    let was : get_or counts.counts (low_bits line) 0 ≡ sum_by (weight (low_bits line)) lines = are (low_bits line) (omega arith) in
    let rest = sum_by-remove (weight (low_bits line)) lines place d within in
    let own : weight (low_bits line) (get_or lines place d) ≡ 1 = ap (weight (low_bits line)) same ∙ own_weight (low_bits line) line refl in
    omega (arith, was, rest, own, none)

-- one more at the end
pub counts_add : (lines : List ℕ) (line : ℕ) (old new : LineCounts) → length old.counts ≡ 512 → new.counts ≡ set old.counts (low_bits line) (get_or old.counts (low_bits line) 0 + 1) → AreCounts lines old → AreCounts (lines ++ line ∷ []) new
counts_add lines line old new size is are bits small =
    let was : get_or old.counts bits 0 ≡ sum_by (weight bits) lines = are bits small in
    let more = sum_by_push (weight bits) lines line in
    let more_now : get_or new.counts bits 0 ≡ get_or old.counts bits 0 + weight bits line = changed bits in
    let now : get_or new.counts bits 0 ≡ sum_by (weight bits) (lines ++ line ∷ []) = omega (arith, was, more, more_now) in
    now
  where
    changed : (bits : ℕ) → get_or new.counts bits 0 ≡ get_or old.counts bits 0 + weight bits line
    changed bits = elim (cases_eq bits (low_bits line)) [
      | inl same ↦
          let set_now : get_or new.counts bits 0 ≡ get_or old.counts (low_bits line) 0 + 1 = rw (is, same) (get_or-set_same old.counts (low_bits line) (get_or old.counts (low_bits line) 0 + 1) 0 (omega (arith, size))) in
          let stood = ap (λ (n : ℕ). get_or old.counts n 0) same in
          let own = own_weight bits line same in
          omega (arith, set_now, stood, own)
      | inr differs ↦
          let kept : get_or new.counts bits 0 ≡ get_or old.counts bits 0 = rw is (get_or-set_other old.counts (low_bits line) bits (get_or old.counts (low_bits line) 0 + 1) 0 differs) in
          let other = other_weight bits line differs in
          omega (arith, kept, other)
    ]

-- one taken out
pub counts_forget : (lines : List ℕ) (place line : ℕ) (old new : LineCounts) → slice_get lines place ≡ Some line → length old.counts ≡ 512 → new.counts ≡ set old.counts (low_bits line) (get_or old.counts (low_bits line) 0 - 1) → AreCounts lines old → AreCounts (remove lines place) new
counts_forget lines place line old new at size is are bits small =
    let was : get_or old.counts bits 0 ≡ sum_by (weight bits) lines = are bits small in
    let less = sum_by-remove (weight bits) lines place line (slice_get_within lines place line at) in
    let here : weight bits (get_or lines place line) ≡ weight bits line = ap (weight bits) (get_or_from_slice_get lines place line line at) in
    let less_now : get_or new.counts bits 0 + weight bits line ≡ get_or old.counts bits 0 = changed bits in
    let now : get_or new.counts bits 0 ≡ sum_by (weight bits) (remove lines place) = omega (arith, was, less, here, less_now) in
    now
  where
    changed : (bits : ℕ) → get_or new.counts bits 0 + weight bits line ≡ get_or old.counts bits 0
    changed bits = elim (cases_eq bits (low_bits line)) [
      | inl same ↦
          let set_now : get_or new.counts bits 0 ≡ get_or old.counts (low_bits line) 0 - 1 = rw (is, same) (get_or-set_same old.counts (low_bits line) (get_or old.counts (low_bits line) 0 - 1) 0 (omega (arith, size))) in
          let stood = ap (λ (n : ℕ). get_or old.counts n 0) same in
          let own = own_weight bits line same in
          let some = counts_some lines old place line are at in
          omega (arith, set_now, stood, own, some)
      | inr differs ↦
          let kept : get_or new.counts bits 0 ≡ get_or old.counts bits 0 = rw is (get_or-set_other old.counts (low_bits line) bits (get_or old.counts (low_bits line) 0 - 1) 0 differs) in
          let other = other_weight bits line differs in
          omega (arith, kept, other)
    ]
