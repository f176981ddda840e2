-- A record is that of one change.
use Rattle.std.proofs.Common.{◌≡◌, ℕ, ◌<◌, ◌^◌, List, [], ◌∷◌, ◌++◌, length, take, drop, refl, sym, ap, ◌∙◌, arith, All}
use Rattle.std.specs.Prelude.{map, slice_index}
use Rattle.std.specs.Int.{w64, from_le_bytes, to_le_bytes}
use Rattle.std.proofs.Math.Seq.{drop-append_seam, take-append_seam}
use Rattle.std.proofs.lemmas.List.Elements.{All-head, All-tail}
use Rattle.std.proofs.lemmas.Nat.{from_le_bytes-to_le_bytes_8}
use Rattle.journal_log.specs.Log.{Log}
use Rattle.table_log.specs.Changes.{Change, Put, Remove, key_of, record_of}
use Rattle.table_log.specs.Tables.{IsTable, Table}

-- how many bytes a key has, and what stands behind that
same_length : (some other : List ℕ) (bytes others : List ℕ) → length some < 2 ^ 64 → length other < 2 ^ 64
    → to_le_bytes w64 (length some) ++ bytes ≡ to_le_bytes w64 (length other) ++ others → length some ≡ length other
same_length some other bytes others short less same =
    sym (from_le_bytes-to_le_bytes_8 (length some) short)
    ∙ ap (λ (bs : List ℕ). from_le_bytes w64 (take 8 bs)) same
    ∙ from_le_bytes-to_le_bytes_8 (length other) less

same_rest : (some other : ℕ) (bytes others : List ℕ) → to_le_bytes w64 some ++ bytes ≡ to_le_bytes w64 other ++ others → bytes ≡ others
same_rest some other bytes others same = ap (drop 8) same

module _ (key other value another : List ℕ) (short : length key < 2 ^ 64) (less : length other < 2 ^ 64) where
  put_alike : record_of (Put key value) ≡ record_of (Put other another) → Put key value ≡ Put other another
  put_alike same =
      let on = ap (drop 1) same in
      let count : length key ≡ length other = same_length key other (key ++ value) (other ++ another) short less on in
      let rest : key ++ value ≡ other ++ another = same_rest (length key) (length other) (key ++ value) (other ++ another) on in
      let keys : key ≡ other =
      sym (take-append_seam key value) ∙ ap (take (length key)) rest ∙ ap (λ (n : ℕ). take n (other ++ another)) count ∙ take-append_seam other another in
      let values : value ≡ another =
      sym (drop-append_seam key value) ∙ ap (drop (length key)) rest ∙ ap (λ (n : ℕ). drop n (other ++ another)) count ∙ drop-append_seam other another in
      ap (λ (k : List ℕ). Put k value) keys ∙ ap (λ (v : List ℕ). Put other v) values

  remove_alike : record_of (Remove key) ≡ record_of (Remove other) → Remove key ≡ Remove other
  remove_alike same = ap Remove (same_rest (length key) (length other) key other (ap (drop 1) same))

pub change_alike : (some other : Change) → length (key_of some) < 2 ^ 64 → length (key_of other) < 2 ^ 64 → record_of some ≡ record_of other → some ≡ other
change_alike (Put key value) (Put other another) short less same = put_alike key other value another short less same
change_alike (Put key value) (Remove other) short less same = absurd (let e : 1 ≡ 0 = ap (λ (bs : List ℕ). slice_index bs 0) same in omega (arith, e))
change_alike (Remove key) (Put other another) short less same = absurd (let e : 0 ≡ 1 = ap (λ (bs : List ℕ). slice_index bs 0) same in omega (arith, e))
change_alike (Remove key) (Remove other) short less same = remove_alike key other [] [] short less same

abbrev IsShort : Change → Type 0
IsShort change = length (key_of change) < 2 ^ 64

abbrev first_record : List (List ℕ) → List ℕ
first_record [] = []
first_record (bytes ∷ records) = bytes

changes_alike : (some other : List Change) → All IsShort some → All IsShort other → map record_of some ≡ map record_of other → some ≡ other
changes_alike [] [] short less same = refl
changes_alike [] (d ∷ ds) short less same = absurd (let e : 0 ≡ length (map record_of (d ∷ ds)) = ap length same in omega (arith, e))
changes_alike (c ∷ cs) [] short less same = absurd (let e : length (map record_of (c ∷ cs)) ≡ 0 = ap length same in omega (arith, e))
changes_alike (c ∷ cs) (d ∷ ds) short less same =
    ap (λ (x : Change). x ∷ cs) (change_alike c d (All-head IsShort c cs short) (All-head IsShort d ds less) (ap first_record same))
    ∙ ap (λ (xs : List Change). d ∷ xs) (changes_alike cs ds (All-tail IsShort c cs short) (All-tail IsShort d ds less) (ap (drop 1) same))

pub tables_alike : (log : Log) (some other : Table) → IsTable log some → IsTable log other → some ≡ other
tables_alike log some other one two =
    ap (λ (n : ℕ). record some { gone = n }) (sym one.gone ∙ two.gone)
    ∙ ap (λ (cs : List Change). record other { changes = cs }) (changes_alike some.changes other.changes one.short two.short (sym one.records ∙ two.records))
