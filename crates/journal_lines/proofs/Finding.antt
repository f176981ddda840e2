-- The record that an index finds.
use Rattle.std.proofs.Common.{◌≡◌, ℕ, ◌+◌, ◌-◌, ◌%◌, ◌<◌, ◌≤◌, List, length, get_or, take, drop, sym, ap, ◌∙◌, arith}
use Rattle.std.specs.Prelude.{slice_get, Some}
use Rattle.std.proofs.lemmas.Option.{slice_get-get_or}
use Rattle.journal_log.specs.Lines.{sizes_of}
use Rattle.journal_log.specs.Log.{Holds, Log, used_by}
use Rattle.journal_lines.specs.Indexed.{IsIndexOf, end_of_index}
use Rattle.journal_lines.specs.Scanning.{first_of, lines_in_use}
use Rattle.journal_lines.specs.declared.index.Index.{Index}
use Rattle.journal_lines.proofs.Calling.{fewer_lines, place-get}
use Rattle.journal_lines.proofs.Reading.{length-places, record_at}

module _ (index : Index) (log : Log) (memory : List (List ℕ)) (is : IsIndexOf index log) (holds : Holds memory log) (whole : length memory ≡ index.lines) (number : ℕ)
    (above : index.gone ≤ number) (less : number < end_of_index index) where
  -- it is there
  there : number - log.gone < length log.records
  there = omega (arith, above, less, is.gone, ap (λ (places : List ℕ). length places) is.places, length-places index.lines log.first log.records)

  -- so many lines behind the first one in use
  abbrev on : ℕ
  on = sizes_of (take (number - log.gone) log.records)

  begins : (place : ℕ) → place ≡ get_or index.places.items (number - index.gone) place → place ≡ (index.first + on) % (index.lines - 1)
  begins place at =
      at
      ∙ ap (λ (n : ℕ). get_or index.places.items (number - n) place) is.gone
      ∙ ap (λ (places : List ℕ). get_or places (number - log.gone) place) is.places
      ∙ place-get index.lines log.first log.records (number - log.gone) place there
      ∙ ap (λ (n : ℕ). (n + on) % (index.lines - 1)) (sym is.first)

  within : on < index.lines - 1
  within = omega (arith, fewer_lines (number - log.gone) log.records there, holds.room, whole)

  pub record_found : (place from : ℕ) (bytes : List ℕ) → place ≡ get_or index.places.items (number - index.gone) place
      → ((c : ℕ) → c < index.lines - 1 → place ≡ (index.first + c) % (index.lines - 1) → from ≡ c) → bytes ≡ first_of (drop from (lines_in_use memory index.first index.used))
      → slice_get log.records (number - log.gone) ≡ Some bytes
  record_found place from bytes at distance are =
      let so_far : from ≡ on = distance on within (begins place at) in
      let read : bytes ≡ get_or log.records (number - log.gone) bytes =
      are
      ∙ ap (λ (n : ℕ). first_of (drop n (lines_in_use memory index.first index.used))) so_far
      ∙ ap (λ (n : ℕ). first_of (drop on (lines_in_use memory n index.used))) is.first
      ∙ ap (λ (n : ℕ). first_of (drop on (lines_in_use memory log.first n))) is.used
      ∙ record_at (lines_in_use memory log.first (used_by log)) log.records (number - log.gone) bytes there holds.lines in
      slice_get-get_or log.records (number - log.gone) bytes there ∙ ap Some (sym read)
