-- How many lines records have.
use Rattle.std.proofs.Common.{◌≡◌, ℕ, zero, suc, ◌+◌, ◌-◌, ◌/◌, ◌≤◌, List, [], ◌∷◌, ◌++◌, length, take, drop, refl, sym, ap, ◌∙◌, arith, length-append}
use Rattle.std.proofs.lemmas.Grind.{flat_map-append}
use Rattle.std.proofs.lemmas.List.{append-nil, take-append-drop}
use Rattle.journal_log.specs.Lines.{lines_from, lines_of, size_of, sizes_of, spelled}

length-lines_from : (more : ℕ) (bytes : List ℕ) → length (lines_from more bytes) ≡ more + 1
length-lines_from zero bytes = refl
length-lines_from (suc more) bytes = ap suc (length-lines_from more (drop 62 bytes)) ∙ (let e : suc (more + 1) ≡ suc more + 1 = omega arith in e)

pub length-lines_of : (bytes : List ℕ) → length (lines_of bytes) ≡ size_of bytes
length-lines_of bytes = length-lines_from ((length bytes - 1) / 62) bytes

-- one record more
pub spelled-push : (records : List (List ℕ)) (bytes : List ℕ) → spelled (records ++ bytes ∷ []) ≡ spelled records ++ lines_of bytes
spelled-push records bytes = flat_map-append lines_of records (bytes ∷ []) ∙ ap (λ (back : List (List ℕ)). spelled records ++ back) (append-nil (lines_of bytes))

pub sizes-push : (records : List (List ℕ)) (bytes : List ℕ) → sizes_of (records ++ bytes ∷ []) ≡ sizes_of records + size_of bytes
sizes-push records bytes =
    ap length (spelled-push records bytes) ∙ length-append (spelled records) (lines_of bytes) ∙ ap (λ (n : ℕ). sizes_of records + n) (length-lines_of bytes)

-- the first records and the others
pub spelled-parts : (k : ℕ) (records : List (List ℕ)) → spelled records ≡ spelled (take k records) ++ spelled (drop k records)
spelled-parts k records = ap spelled (sym (take-append-drop k records)) ∙ flat_map-append lines_of (take k records) (drop k records)

pub sizes-parts : (k : ℕ) (records : List (List ℕ)) → sizes_of records ≡ sizes_of (take k records) + sizes_of (drop k records)
sizes-parts k records = ap length (spelled-parts k records) ∙ length-append (spelled (take k records)) (spelled (drop k records))

-- each record has a line
pub sizes-least : (records : List (List ℕ)) → length records ≤ sizes_of records
sizes-least [] = omega arith
sizes-least (bytes ∷ records) =
    omega (arith, sizes-least records, length-append (lines_of bytes) (spelled records), length-lines_of bytes)
