-- The index behind calls, and the writes of an append one by one.
use Rattle.std.proofs.Common.{◌≡◌, ℕ, zero, suc, ◌+◌, ◌-◌, ◌%◌, ◌<◌, ◌≤◌, inl, inr, List, [], ◌∷◌, ◌++◌, length, take, drop, get_or, refl, sym, ap, ◌∙◌, arith, length-append, length-drop}
use Rattle.std.specs.Prelude.{slice_get, slice_index_or, Some}
use Rattle.std.proofs.Math.Nat.{add-mod_left, mod-add-mod, mod-eq_of_lt, mod-mod}
use Rattle.std.proofs.lemmas.Bool.{cases_lt}
use Rattle.line_memory.specs.declared.Write.{Write}
use Rattle.journal_log.specs.Lines.{lines_of, size_of, sizes_of, spelled}
use Rattle.journal_log.specs.Calls.{placed}
use Rattle.journal_log.proofs.Spelling.{length-lines_of, sizes-least, sizes-parts}
use Rattle.journal_lines.specs.Places.{places_of}

-- a line of a record among the writes, and the write behind them
pub placed-get : (lines at : ℕ) (written : List (List ℕ)) (rest : List Write) (k : ℕ) → k < length written
    → slice_get (placed lines at written ++ rest) k ≡ Some (record { line = 1 + (at + k) % (lines - 1); «data» = slice_index_or written k [] })
placed-get lines at [] rest k less = absurd (omega (arith, less))
placed-get lines at (line ∷ written) rest zero less =
    ap (λ (n : ℕ). Some (record { line = 1 + n % (lines - 1); «data» = line })) (let e : at ≡ at + 0 = omega arith in e)
placed-get lines at (line ∷ written) rest (suc k) less =
    placed-get lines (at + 1) written rest k (omega (arith, less))
    ∙ ap (λ (n : ℕ). Some (record { line = 1 + n % (lines - 1); «data» = slice_index_or written k [] })) (let e : at + 1 + k ≡ at + suc k = omega arith in e)

pub placed-end : (lines at : ℕ) (written : List (List ℕ)) (write : Write) → slice_get (placed lines at written ++ write ∷ []) (length written) ≡ Some write
placed-end lines at [] write = refl
placed-end lines at (line ∷ written) write = placed-end lines (at + 1) written write

-- where a record begins
pub place-get : (lines at : ℕ) (records : List (List ℕ)) (k d : ℕ) → k < length records → get_or (places_of lines at records) k d ≡ (at + sizes_of (take k records)) % (lines - 1)
place-get lines at [] k d less = absurd (omega (arith, less))
place-get lines at (bytes ∷ records) zero d less = ap (λ (n : ℕ). n % (lines - 1)) (let e : at ≡ at + 0 = omega arith in e)
place-get lines at (bytes ∷ records) (suc k) d less =
    place-get lines (at + size_of bytes) records k d (omega (arith, less))
    ∙ ap (λ (n : ℕ). n % (lines - 1))
    (let e : at + size_of bytes + sizes_of (take k records) ≡ at + sizes_of (bytes ∷ take k records) = omega (arith, length-append (lines_of bytes) (spelled (take k records)), length-lines_of bytes) in e)

-- the places of the records from one of them on
pub places-drop : (lines at : ℕ) (records : List (List ℕ)) (k : ℕ) → drop k (places_of lines at records) ≡ places_of lines (at + sizes_of (take k records)) (drop k records)
places-drop lines at records zero = ap (λ (n : ℕ). places_of lines n records) (let e : at ≡ at + 0 = omega arith in e)
places-drop lines at [] (suc k) = refl
places-drop lines at (bytes ∷ records) (suc k) =
    places-drop lines (at + size_of bytes) records k
    ∙ ap (λ (n : ℕ). places_of lines n (drop k records))
    (let e : at + size_of bytes + sizes_of (take k records) ≡ at + sizes_of (bytes ∷ take k records) = omega (arith, length-append (lines_of bytes) (spelled (take k records)), length-lines_of bytes) in e)

-- round the ring they are the same
pub places-round : (lines at other : ℕ) (records : List (List ℕ)) → at % (lines - 1) ≡ other % (lines - 1) → places_of lines at records ≡ places_of lines other records
places-round lines at other [] same = refl
places-round lines at other (bytes ∷ records) same =
    ap (λ (n : ℕ). n ∷ places_of lines (at + size_of bytes) records) same
    ∙ ap (λ (places : List ℕ). other % (lines - 1) ∷ places) (places-round lines (at + size_of bytes) (other + size_of bytes) records
    (sym (mod-add-mod at (lines - 1) (size_of bytes)) ∙ ap (λ (n : ℕ). (n + size_of bytes) % (lines - 1)) same ∙ mod-add-mod other (lines - 1) (size_of bytes)))

pub places-cut : (lines at : ℕ) (records : List (List ℕ)) (k : ℕ) → drop k (places_of lines at records) ≡ places_of lines ((at + sizes_of (take k records)) % (lines - 1)) (drop k records)
places-cut lines at records k =
    places-drop lines at records k
    ∙ places-round lines (at + sizes_of (take k records)) ((at + sizes_of (take k records)) % (lines - 1)) (drop k records) (sym (mod-mod (at + sizes_of (take k records)) (lines - 1)))

-- how far on a place is
wrapped : (at size : ℕ) → size ≤ at → at - size < size → at % size ≡ at - size
wrapped at size behind less =
    ap (λ (n : ℕ). n % size) (let e : at ≡ size + (at - size) = omega (arith, behind) in e) ∙ add-mod_left size (at - size) ∙ mod-eq_of_lt less

pub distance_on : (from to ring c : ℕ) → from ≤ ring → c < ring → to ≡ (from + c) % ring → from ≤ to → to - from ≡ c
distance_on from to ring c place less is on =
    elim (cases_lt (from + c) ring) [
      | inl before ↦ let e : (from + c) % ring ≡ from + c = mod-eq_of_lt before in omega (arith, is, e)
      | inr behind ↦ let e : (from + c) % ring ≡ from + c - ring = wrapped (from + c) ring behind (omega (arith, place, less, behind)) in omega (arith, is, e, on, less, behind)
    ]

pub distance_round : (from to ring c : ℕ) → from ≤ ring → c < ring → to ≡ (from + c) % ring → to < from → to + ring - from ≡ c
distance_round from to ring c place less is on =
    elim (cases_lt (from + c) ring) [
      | inl before ↦ let e : (from + c) % ring ≡ from + c = mod-eq_of_lt before in absurd (omega (arith, is, e, on))
      | inr behind ↦ let e : (from + c) % ring ≡ from + c - ring = wrapped (from + c) ring behind (omega (arith, place, less, behind)) in omega (arith, is, e, less, behind)
    ]

-- of some records a part that isn't all of them has fewer lines
pub fewer_lines : (k : ℕ) (records : List (List ℕ)) → k < length records → sizes_of (take k records) < sizes_of records
fewer_lines k records less = omega (arith, sizes-parts k records, sizes-least (drop k records), length-drop k records, less)
