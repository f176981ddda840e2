-- What a row has, place by place, after a write.
use Rattle.std.proofs.Common.{◌≡◌, ◌⊎◌, ⊎_elim, min, max, inl, inr, ℕ, ◌+◌, ◌-◌, ◌<◌, ◌≤◌, List, ◌++◌, length, get_or, take, drop, Bool, true, false, replicate, refl, sym, ◌∙◌, ap, arith, length-append, length-drop}
use Rattle.std.proofs.lemmas.Bool.{cases_lt, false_from_ne_true}
use Rattle.std.proofs.lemmas.List.{length-take-le, length-replicate, get_or-replicate, get_or-take, get_or-drop, get_or_append_left, get_or-append_right}
use Rattle.std.proofs.lemmas.Grind.{same_number_lists}
use Rattle.save_device.specs.Rows.{overwritten, IsInRange, DiffersOnlyAt}
use Rattle.save_device.specs.Flags.{AllUpWithin, CopiedWithin, ClearedWithin}

module _ {X : Type 0} (old new bytes : List X) (at n : ℕ) (long : n ≡ length bytes) (fits : at + n ≤ length old) (holds : new ≡ overwritten old at bytes) where
  front : length (take at old) ≡ at
  front = length-take-le at old (omega arith)

  pub holds-length : length new ≡ length old
  holds-length = ap length holds ∙ omega (arith, length-append (take at old ++ bytes) (drop (at + length bytes) old), length-append (take at old) bytes, front, length-drop (at + length bytes) old)

  pub holds-before : (k : ℕ) (d : X) → k < at → get_or new k d ≡ get_or old k d
  holds-before k d less =
      ap (λ (l : List X). get_or l k d) holds
      ∙ get_or_append_left (take at old ++ bytes) (drop (at + length bytes) old) d k (omega (arith, length-append (take at old) bytes, front))
      ∙ get_or_append_left (take at old) bytes d k (omega (arith, front))
      ∙ get_or-take at old k d less

  pub holds-within : (k : ℕ) (d : X) → at ≤ k → k < at + n → get_or new k d ≡ get_or bytes (k - at) d
  holds-within k d least less =
      ap (λ (l : List X). get_or l k d) holds
      ∙ get_or_append_left (take at old ++ bytes) (drop (at + length bytes) old) d k (omega (arith, length-append (take at old) bytes, front))
      ∙ get_or-append_right (take at old) bytes at k d front least

  pub holds-after : (k : ℕ) (d : X) → at + n ≤ k → get_or new k d ≡ get_or old k d
  holds-after k d least =
      let seam : length (take at old ++ bytes) ≡ at + length bytes = omega (arith, length-append (take at old) bytes, front) in
      let same : at + length bytes + (k - (at + length bytes)) ≡ k = omega arith in
      ap (λ (l : List X). get_or l k d) holds
      ∙ get_or-append_right (take at old ++ bytes) (drop (at + length bytes) old) (at + length bytes) k d seam (omega arith)
      ∙ get_or-drop (at + length bytes) old (k - (at + length bytes)) d
      ∙ ap (λ (i : ℕ). get_or old i d) same

-- Where flags were raised over what was written, the others still stand for settled places.
pub still_agrees : (settled old new bytes : List ℕ) (flags raised : List Bool) (at : ℕ) → length flags ≡ length old → at + length bytes ≤ length old
    → new ≡ overwritten old at bytes → raised ≡ overwritten flags at (replicate (length bytes) true)
    → ((k : ℕ) → get_or flags k false ≡ false → get_or settled k 0 ≡ get_or old k 0)
    → (k : ℕ) → get_or raised k false ≡ false → get_or settled k 0 ≡ get_or new k 0
still_agrees settled old new bytes flags raised at long fits holds raises agrees k low =
    let n = length bytes in
    let trues : List Bool = replicate n true in
    let ns : n ≡ length trues = sym (length-replicate n true) in
    let fits' : at + n ≤ length flags = omega (arith, long, fits) in
    elim (cases_lt k at) [
      | inl before ↦ agrees k (sym (holds-before flags raised trues at n ns fits' raises k false before) ∙ low) ∙ sym (holds-before old new bytes at n refl fits holds k 0 before)
      | inr least ↦ elim (cases_lt k (at + n)) [
        | inl less ↦
            let up : get_or raised k false ≡ true = holds-within flags raised trues at n ns fits' raises k false least less ∙ get_or-replicate n (k - at) true false (omega arith) in
            absurd (cc (up, low))
        | inr after ↦ agrees k (sym (holds-after flags raised trues at n ns fits' raises k false after) ∙ low) ∙ sym (holds-after old new bytes at n refl fits holds k 0 after)
      ]
    ]

-- Flags that are up after a raise lie in the span that was widened by it.
pub still_spanned : (flags raised : List Bool) (at n low high low' high' : ℕ) → at + n ≤ length flags → raised ≡ overwritten flags at (replicate n true)
    → low' ≡ min low at → high' ≡ max high (at + n) → AllUpWithin low high flags → AllUpWithin low' high' raised
still_spanned flags raised at n low high low' high' fits raises least most within k up =
    let trues : List Bool = replicate n true in
    let ns : n ≡ length trues = sym (length-replicate n true) in
    let below : low' ≤ low = omega arith in
    let below_at : low' ≤ at = omega arith in
    let above : high ≤ high' = omega arith in
    let above_at : at + n ≤ high' = omega arith in
    elim (cases_lt k at) [
      | inl before ↦ let was = within k (sym (holds-before flags raised trues at n ns fits raises k false before) ∙ up) in (omega (arith, was.0), omega (arith, was.1))
      | inr least_k ↦ elim (cases_lt k (at + n)) [
        | inl less ↦ (omega (arith, below_at, least_k), omega (arith, above_at, less))
        | inr after ↦ let was = within k (sym (holds-after flags raised trues at n ns fits raises k false after) ∙ up) in (omega (arith, was.0), omega (arith, was.1))
      ]
    ]

-- Where the span is copied that holds each unsettled place, the whole row is.
pub all_copied : (low high : ℕ) (row settled copied : List ℕ) (flags : List Bool) → length settled ≡ length row → AllUpWithin low high flags
    → ((k : ℕ) → get_or flags k false ≡ false → get_or settled k 0 ≡ get_or row k 0) → CopiedWithin low high row settled copied → copied ≡ row
all_copied low high row settled copied flags whole within agrees copies =
    same_number_lists copied row (copies.size ∙ whole) (λ k less.
    let settled_here : (k < low) ⊎ (high ≤ k) → get_or settled k 0 ≡ get_or row k 0 =
    λ out. agrees k (false_from_ne_true (get_or flags k false) (λ up. let is = within k up in ⊎_elim (λ (b : k < low). let bad : ⊥ = omega (arith, is.0, b) in bad) (λ (b : high ≤ k). let bad : ⊥ = omega (arith, is.1, b) in bad) out)) in
    elim (cases_lt k low) [
      | inl before ↦ copies.outside k (inl before) ∙ settled_here (inl before)
      | inr least ↦ elim (cases_lt k high) [
        | inl most ↦ copies.inside k least most
        | inr after ↦ copies.outside k (inr after) ∙ settled_here (inr after)
      ]
    ])

-- after a write nothing but its range differs
pub differs_within : (old new bytes : List ℕ) (at : ℕ) → at + length bytes ≤ length old → new ≡ overwritten old at bytes → DiffersOnlyAt (IsInRange at (length bytes)) old new
differs_within old new bytes at fits holds = record {
  size = holds-length old new bytes at (length bytes) refl fits holds;
  outside = λ place out. elim (cases_lt place at) [
    | inl before ↦ holds-before old new bytes at (length bytes) refl fits holds place 0 before
    | inr least ↦ elim (cases_lt place (at + length bytes)) [
      | inl less ↦ absurd (out (least, less))
      | inr after ↦ holds-after old new bytes at (length bytes) refl fits holds place 0 after
    ]
  ];
}

-- rows that differ nowhere are the same
pub same_rows : (old new : List ℕ) → DiffersOnlyAt (λ place. ⊥) old new → new ≡ old
same_rows old new differs = same_number_lists new old differs.size (λ place less. differs.outside place (λ none. none))

-- the flags after a raise
pub raised_flags : (flags raised : List Bool) (at n : ℕ) → at + n ≤ length flags → raised ≡ overwritten flags at (replicate n true) → (place : ℕ)
    → ((get_or raised place false ≡ true) → (get_or flags place false ≡ true) ⊎ IsInRange at n place) × ((get_or flags place false ≡ true) ⊎ IsInRange at n place → get_or raised place false ≡ true)
raised_flags flags raised at n fits raises place =
    let trues : List Bool = replicate n true in
    let ns : n ≡ length trues = sym (length-replicate n true) in
    elim (cases_lt place at) [
      | inl before ↦
          let same = holds-before flags raised trues at n ns fits raises place false before in
          ((λ up. inl (sym same ∙ up)), (λ either. ⊎_elim (λ up. same ∙ up) (λ (w : IsInRange at n place). let bad : ⊥ = omega (arith, w.0, before) in absurd bad) either))
      | inr least ↦ elim (cases_lt place (at + n)) [
        | inl less ↦ ((λ up. inr (least, less)), (λ either. holds-within flags raised trues at n ns fits raises place false least less ∙ get_or-replicate n (place - at) true false (omega arith)))
        | inr after ↦
            let same = holds-after flags raised trues at n ns fits raises place false after in
            ((λ up. inl (sym same ∙ up)), (λ either. ⊎_elim (λ up. same ∙ up) (λ (w : IsInRange at n place). let bad : ⊥ = omega (arith, w.1, after) in absurd bad) either))
      ]
    ]

-- where the span is cleared that holds each flag that is up, none is
pub none_up : (low high : ℕ) (flags cleared : List Bool) → AllUpWithin low high flags → ClearedWithin low high flags cleared → (place : ℕ) → get_or cleared place false ≡ true → ⊥
none_up low high flags cleared within clears place up =
    let out : (place < low) ⊎ (high ≤ place) → ⊥ = λ outside.
    let is = within place (sym (clears.outside place outside) ∙ up) in ⊎_elim (λ (b : place < low). let bad : ⊥ = omega (arith, is.0, b) in bad) (λ (b : high ≤ place). let bad : ⊥ = omega (arith, is.1, b) in bad) outside in
    elim (cases_lt place low) [
      | inl before ↦ out (inl before)
      | inr least ↦ elim (cases_lt place high) [
        | inl most ↦ let low_now : false ≡ true = sym (clears.inside place least most) ∙ up in cc
        | inr after ↦ out (inr after)
      ]
    ]
