-- Where the lines of a record lie.
use Rattle.std.proofs.Common.{◌≡◌, ℕ, zero, suc, ◌+◌, ◌-◌, ◌/◌, ◌%◌, ◌<◌, List, [], ◌∷◌, ◌++◌, length, get_or, take, drop, replicate, refl, sym, ap, ◌∙◌, arith, drop-cons, length-append}
use Rattle.std.specs.Prelude.{Some, slice_get, slice_index_or}
use Rattle.std.proofs.Math.Nat.{mod-add-mod}
use Rattle.std.specs.List.{flat_map}
use Rattle.std.proofs.lemmas.List.{append-nil, get_or-append-add, get_or-take, get_or_append_left, take-append-drop, take_at}
use Rattle.std.proofs.lemmas.Option.{get_or_from_slice_get, slice_get_within}
use Rattle.line_memory.specs.Memory.{line_of}
use Rattle.journal_log.specs.Lines.{line_with, lines_from, lines_of, size_of, sizes_of, spelled}
use Rattle.journal_log.specs.Log.{Holds, Log, ring_of, rotated, used_by}
use Rattle.journal_log.proofs.Spelling.{length-lines_of, sizes-parts, spelled-parts}
use Rattle.journal_lines.specs.Indexed.{IsIndexOf}
use Rattle.journal_lines.specs.Scanning.{held_by}
use Rattle.journal_lines.specs.declared.index.Index.{Index}
use Rattle.journal_lines.proofs.Calling.{place-get}
use Rattle.journal_lines.proofs.Ringing.{line_read}

module _ (records : List (List ℕ)) (k : ℕ) (bytes : List ℕ) (there : slice_get records k ≡ Some bytes) where
  pub within : k < length records
  within = slice_get_within records k bytes there

  from_it : drop k records ≡ bytes ∷ drop (suc k) records
  from_it = drop-cons records k bytes within ∙ ap (λ (b : List ℕ). b ∷ drop (suc k) records) (get_or_from_slice_get records k bytes bytes there)

  -- the lines from one record on are its own, and those of the records behind it
  lines_from_it : spelled (drop k records) ≡ lines_of bytes ++ spelled (drop (suc k) records)
  lines_from_it = ap spelled from_it

  pub size_between : sizes_of (drop k records) ≡ size_of bytes + sizes_of (drop (k + 1) records)
  size_between =
      ap length lines_from_it ∙ length-append (lines_of bytes) (spelled (drop (suc k) records))
      ∙ ap (λ (n : ℕ). n + sizes_of (drop (suc k) records)) (length-lines_of bytes)
      ∙ ap (λ (n : ℕ). size_of bytes + sizes_of (drop n records)) (let e : suc k ≡ k + 1 = omega arith in e)

  -- among all lines
  pub line_among : (at : ℕ) → at < size_of bytes → get_or (spelled records) (sizes_of (take k records) + at) [] ≡ get_or (lines_of bytes) at []
  line_among at less =
      ap (λ (ls : List (List ℕ)). get_or ls (sizes_of (take k records) + at) []) (spelled-parts k records)
      ∙ get_or-append-add (spelled (take k records)) (spelled (drop k records)) at []
      ∙ ap (λ (ls : List (List ℕ)). get_or ls at []) lines_from_it
      ∙ get_or_append_left (lines_of bytes) (spelled (drop (suc k) records)) [] at (omega (arith, less, length-lines_of bytes))

  pub fits_behind : (at : ℕ) → at < size_of bytes → sizes_of (take k records) + at < sizes_of records
  fits_behind at less = omega (arith, less, sizes-parts k records, size_between)

module _ (index : Index) (log : Log) (memory : List (List ℕ)) (is : IsIndexOf index log) (holds : Holds memory log) (whole : length memory ≡ index.lines) (number : ℕ) (bytes : List ℕ)
    (there : slice_get log.records (number - log.gone) ≡ Some bytes) where
  abbrev on : ℕ
  on = sizes_of (take (number - log.gone) log.records)

  begins : (place : ℕ) → place ≡ get_or index.places.items (number - index.gone) place → place ≡ (log.first + on) % (length memory - 1)
  begins place at =
      at
      ∙ ap (λ (n : ℕ). get_or index.places.items (number - n) place) is.gone
      ∙ ap (λ (places : List ℕ). get_or places (number - log.gone) place) is.places
      ∙ place-get index.lines log.first log.records (number - log.gone) place (within log.records (number - log.gone) bytes there)
      ∙ ap (λ (n : ℕ). (log.first + on) % (n - 1)) (sym whole)

  pub line_there : (place at ring : ℕ) → place ≡ get_or index.places.items (number - index.gone) place → ring ≡ length memory - 1 → at < size_of bytes
      → line_of memory (1 + (place + at) % ring) ≡ slice_index_or (lines_of bytes) at []
  line_there place at ring begun round less =
      let behind : on + at < used_by log = fits_behind log.records (number - log.gone) bytes there at less in
      let lies : (place + at) % ring ≡ (log.first + (on + at)) % (length memory - 1) =
      ap (λ (n : ℕ). (place + at) % n) round
      ∙ ap (λ (n : ℕ). (n + at) % (length memory - 1)) (begins place begun)
      ∙ mod-add-mod (log.first + on) (length memory - 1) at
      ∙ ap (λ (n : ℕ). n % (length memory - 1)) (let e : log.first + on + at ≡ log.first + (on + at) = omega arith in e) in
      ap (λ (n : ℕ). get_or memory (1 + n) []) lies
      ∙ line_read log.first (on + at) memory holds.place (omega (arith, behind, holds.room))
      ∙ sym (get_or-take (used_by log) (rotated log.first (ring_of memory)) (on + at) [] behind)
      ∙ ap (λ (ls : List (List ℕ)). get_or ls (on + at) []) holds.lines
      ∙ line_among log.records (number - log.gone) bytes there at less

-- what the lines of a record hold, one behind another
held_in : (last : ℕ) (bytes : List ℕ) → held_by (line_with last bytes) ≡ bytes
unfolding line_with
held_in last bytes = take_at bytes (replicate (62 - length bytes) 0) (length bytes) refl

held_from : (more : ℕ) (bytes : List ℕ) → flat_map held_by (lines_from more bytes) ≡ bytes
held_from zero bytes = append-nil (held_by (line_with 1 bytes)) ∙ held_in 1 bytes
held_from (suc more) bytes =
    ap (λ (front : List ℕ). front ++ flat_map held_by (lines_from more (drop 62 bytes))) (held_in 0 (take 62 bytes))
    ∙ ap (λ (back : List ℕ). take 62 bytes ++ back) (held_from more (drop 62 bytes))
    ∙ take-append-drop 62 bytes

pub held_in_all : (bytes : List ℕ) → flat_map held_by (lines_of bytes) ≡ bytes
held_in_all bytes = held_from ((length bytes - 1) / 62) bytes
