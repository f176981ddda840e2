-- Which records the lines in use are those of, read one behind another.
use Rattle.std.proofs.Common.{◌≡◌, ℕ, zero, suc, ◌+◌, ◌-◌, ◌/◌, ◌%◌, ◌<◌, ◌≤◌, List, [], ◌∷◌, ◌++◌, length, get_or, take, drop, replicate, refl, sym, ap, ◌∙◌, arith, append_assoc, length-append, length-drop, drop-cons, All}
use Rattle.std.proofs.Math.Seq.{drop-append_seam, take-add}
use Rattle.std.proofs.lemmas.Grind.{flat_map-append}
use Rattle.std.proofs.lemmas.List.Elements.{All-nil, All-push}
use Rattle.std.proofs.lemmas.List.{append_cancel_left, length-take, take-append-drop, take_all, take_at}
use Rattle.std.proofs.lemmas.Nat.{mod_below}
use Rattle.journal_log.specs.Lines.{line_with, lines_from, lines_of, size_of, sizes_of, spelled}
use Rattle.journal_log.proofs.Spelling.{length-lines_of, sizes-least, sizes-push, spelled-parts, spelled-push}
use Rattle.journal_lines.specs.Places.{places_of}
use Rattle.journal_lines.specs.Scanning.{first_of}

inner_first : (bytes : List ℕ) (lines : List (List ℕ)) → first_of (line_with 0 bytes ∷ lines) ≡ bytes ++ first_of lines
unfolding line_with
inner_first bytes lines = ap (λ (held : List ℕ). held ++ first_of lines) (take_at bytes (replicate (62 - length bytes) 0) (length bytes) refl)

last_first : (bytes : List ℕ) (lines : List (List ℕ)) → first_of (line_with 1 bytes ∷ lines) ≡ bytes
unfolding line_with
last_first bytes lines = take_at bytes (replicate (62 - length bytes) 0) (length bytes) refl

first_from : (more : ℕ) (bytes : List ℕ) (lines : List (List ℕ)) → first_of (lines_from more bytes ++ lines) ≡ bytes
first_from zero bytes lines = last_first bytes lines
first_from (suc more) bytes lines =
    inner_first (take 62 bytes) (lines_from more (drop 62 bytes) ++ lines)
    ∙ ap (λ (rest : List ℕ). take 62 bytes ++ rest) (first_from more (drop 62 bytes) lines)
    ∙ take-append-drop 62 bytes

-- the record with whose lines they begin
pub first_record : (bytes : List ℕ) (lines : List (List ℕ)) → first_of (lines_of bytes ++ lines) ≡ bytes
first_record bytes lines = first_from ((length bytes - 1) / 62) bytes lines

pub places-push : (lines at : ℕ) (records : List (List ℕ)) (bytes : List ℕ) → places_of lines at (records ++ bytes ∷ []) ≡ places_of lines at records ++ (at + sizes_of records) % (lines - 1) ∷ []
places-push lines at [] bytes = ap (λ (n : ℕ). n % (lines - 1) ∷ []) (let e : at ≡ at + 0 = omega arith in e)
places-push lines at (one ∷ records) bytes =
    ap (λ (places : List ℕ). at % (lines - 1) ∷ places) (places-push lines (at + size_of one) records bytes)
    ∙ ap (λ (n : ℕ). at % (lines - 1) ∷ (places_of lines (at + size_of one) records ++ n % (lines - 1) ∷ []))
    (let e : at + size_of one + sizes_of records ≡ at + sizes_of (one ∷ records) = omega (arith, length-append (lines_of one) (spelled records), length-lines_of one) in e)

pub length-places : (lines at : ℕ) (records : List (List ℕ)) → length (places_of lines at records) ≡ length records
length-places lines at [] = refl
length-places lines at (bytes ∷ records) = ap suc (length-places lines (at + size_of bytes) records)

-- the first lines are those of these records, which begin at these places, and no others can be meant
pub record ReadUpTo (lines : List (List ℕ)) (size first from : ℕ) (places : List ℕ) : Type 0 where
  pub records : List (List ℕ)
  pub most : from ≤ length lines
  pub are : take from lines ≡ spelled records
  pub long : from ≡ sizes_of records
  pub begin : places ≡ places_of size first records
  pub within : All (λ place. place < size) places
  pub only : (all : List (List ℕ)) → lines ≡ spelled all → (rest : List (List ℕ)) × (all ≡ records ++ rest)

pub read_none : (lines : List (List ℕ)) (size first : ℕ) → ReadUpTo lines size first 0 []
read_none lines size first = record { records = []; most = omega arith; are = refl; long = refl; begin = refl; within = All-nil (λ place. place < size); only = λ all are. (all, refl) }

module _ (lines : List (List ℕ)) (size first from : ℕ) (places : List ℕ) (r : ReadUpTo lines size first from places) (less : from < length lines) (room : length lines < size) (bytes : List ℕ)
    (is : bytes ≡ first_of (drop from lines)) where
  -- if they are those of records at all, the next one has these bytes
  next : (all : List (List ℕ)) → lines ≡ spelled all → (rest : List (List ℕ)) × (drop from lines ≡ lines_of bytes ++ spelled rest) × (all ≡ r.records ++ bytes ∷ rest)
  next all are = behind (r.only all are).0 (r.only all are).1
    where
      others : (rest : List (List ℕ)) → all ≡ r.records ++ rest → drop from lines ≡ spelled rest
      others rest parts =
          append_cancel_left (take from lines) (drop from lines) (spelled rest)
          (take-append-drop from lines ∙ are ∙ ap spelled parts ∙ flat_map-append lines_of r.records rest ∙ ap (λ (front : List (List ℕ)). front ++ spelled rest) (sym r.are))

      behind : (rest : List (List ℕ)) → all ≡ r.records ++ rest → (rest : List (List ℕ)) × (drop from lines ≡ lines_of bytes ++ spelled rest) × (all ≡ r.records ++ bytes ∷ rest)
      behind [] parts = absurd (omega (arith, less, length-drop from lines, ap length (others [] parts)))
      behind (b ∷ rest) parts =
          let same : b ≡ bytes = sym (first_record b (spelled rest)) ∙ ap first_of (sym (others (b ∷ rest) parts)) ∙ sym is in
          (rest, others (b ∷ rest) parts ∙ ap (λ (x : List ℕ). lines_of x ++ spelled rest) same, parts ∙ ap (λ (x : List ℕ). r.records ++ x ∷ rest) same)

  pub read_next : take (size_of bytes) (drop from lines) ≡ lines_of bytes → ReadUpTo lines size first (from + size_of bytes) (places ++ (first + from) % (size - 1) ∷ [])
  read_next there = record {
    records = r.records ++ bytes ∷ [];
    most = omega (arith, less, length-drop from lines, ap length there, length-lines_of bytes, length-take (size_of bytes) (drop from lines));
    are = take-add from (size_of bytes) lines ∙ ap (λ (front : List (List ℕ)). front ++ take (size_of bytes) (drop from lines)) r.are ∙ ap (λ (back : List (List ℕ)). spelled r.records ++ back) there ∙ sym (spelled-push r.records bytes);
    long = omega (arith, r.long, sizes-push r.records bytes);
    begin = ap (λ (front : List ℕ). front ++ (first + from) % (size - 1) ∷ []) r.begin ∙ ap (λ (n : ℕ). places_of size first r.records ++ (first + n) % (size - 1) ∷ []) r.long ∙ sym (places-push size first r.records bytes);
    within = All-push (λ place. place < size) places ((first + from) % (size - 1)) r.within (omega (arith, less, room, mod_below (first + from) (size - 1) (omega (arith, less, room))));
    only = λ all are. let n = next all are in (n.0, n.2 ∙ sym (append_assoc r.records (bytes ∷ []) n.0));
  }

  pub read_not : (take (size_of bytes) (drop from lines) ≡ lines_of bytes → ⊥) → (all : List (List ℕ)) → lines ≡ spelled all → ⊥
  read_not not all are =
      let n = next all are in
      not (ap (take (size_of bytes)) n.1 ∙ take_at (lines_of bytes) (spelled n.0) (size_of bytes) (length-lines_of bytes))

pub read_few : (lines : List (List ℕ)) (size first from : ℕ) (places : List ℕ) → ReadUpTo lines size first from places → length places ≤ length lines
read_few lines size first from places r =
    omega (arith, r.most, r.long, ap length r.begin, length-places size first r.records, sizes-least r.records)

pub read_whole : (lines : List (List ℕ)) (size first from : ℕ) (places : List ℕ) → ReadUpTo lines size first from places → length lines ≤ from
    → (records : List (List ℕ)) × (lines ≡ spelled records) × (places ≡ places_of size first records)
read_whole lines size first from places r all = (r.records, sym (take_all from lines all) ∙ r.are, r.begin)

-- from where a record begins on, the first one is that record
pub record_at : (lines : List (List ℕ)) (records : List (List ℕ)) (k : ℕ) (d : List ℕ) → k < length records → lines ≡ spelled records
    → first_of (drop (sizes_of (take k records)) lines) ≡ get_or records k d
record_at lines records k d less are =
    ap (λ (ls : List (List ℕ)). first_of (drop (sizes_of (take k records)) ls)) (are ∙ spelled-parts k records)
    ∙ ap first_of (drop-append_seam (spelled (take k records)) (spelled (drop k records)))
    ∙ ap (λ (rs : List (List ℕ)). first_of (spelled rs)) (drop-cons records k d less)
    ∙ first_record (get_or records k d) (spelled (drop (suc k) records))
