-- The records of a journal, read one after another as changes.
use Rattle.std.proofs.Common.{◌≡◌, ◌∙◌, ◌+◌, ◌<◌, ◌≤◌, ◌^◌, ℕ, zero, suc, List, [], ◌∷◌, ◌++◌, All, ap, length, refl, sym, take}
use Rattle.std.specs.Prelude.{None, Option, Some, Vec, map, slice_get, unwrap_or}
use Rattle.std.specs.HashMap.{HashMap}
use Rattle.std.proofs.lemmas.List.{map-append, take_all, take_more}
use Rattle.std.proofs.lemmas.List.Elements.{All-head, All-nil, All-push, All-tail}
use Rattle.std.proofs.lemmas.Option.{get_or_from_slice_get, none-some, slice_get_within}
use Rattle.journal_log.specs.Log.{Log}
use Rattle.table_log.specs.Changes.{Change, key_of, record_of, value_after, value_behind}
use Rattle.table_log.specs.Tables.{IsTable, Table, value_in}
use Rattle.table_log.proofs.Changing.{value_push}
use Rattle.journal_table.specs.Values.{held}

abbrev pub IsShort : Change → Type 0
IsShort change = length (key_of change) < 2 ^ 64

-- The first records are those of changes, and the values are what these make.
pub record ReadSoFar {A S : Type 0} (values : HashMap (Vec ℕ A) (Vec ℕ A) S) (log : Log) (count : ℕ) : Type 0 where
  pub changes : List Change
  pub are : take count log.records ≡ map record_of changes
  pub short : All IsShort changes
  pub values_are : (key : List ℕ) → held values key ≡ value_after key None changes

module _ {A S : Type 0} (log : Log) where
  pub none_read : (values : HashMap (Vec ℕ A) (Vec ℕ A) S) → ((key : List ℕ) → held values key ≡ None) → ReadSoFar values log 0
  none_read values none = record { changes = []; are = refl; short = All-nil IsShort; values_are = none }

  pub one_read : (old new : HashMap (Vec ℕ A) (Vec ℕ A) S) (count : ℕ) (bytes : List ℕ) (change : Change) → ReadSoFar old log count
      → slice_get log.records count ≡ Some bytes → bytes ≡ record_of change → IsShort change
      → ((key : List ℕ) → held new key ≡ value_behind key (held old key) change) → ReadSoFar new log (count + 1)
  one_read old new count bytes change so is spelled short changed = record {
    changes = so.changes ++ change ∷ [];
    are = take_more log.records count bytes (slice_get_within log.records count bytes is)
        ∙ ap (λ (b : List ℕ). take count log.records ++ b ∷ []) (get_or_from_slice_get log.records count bytes bytes is ∙ spelled)
        ∙ ap (λ (bs : List (List ℕ)). bs ++ record_of change ∷ []) so.are
        ∙ sym (map-append record_of so.changes (change ∷ []));
    short = All-push IsShort so.changes change so.short short;
    values_are = λ key. changed key ∙ ap (λ (had : Option (List ℕ)). value_behind key had change) (so.values_are key) ∙ sym (value_push key so.changes change);
  }

  pub all_read : (values : HashMap (Vec ℕ A) (Vec ℕ A) S) (count : ℕ) → ReadSoFar values log count → length log.records ≤ count
      → (table : Table) × IsTable log table × ((key : List ℕ) → held values key ≡ value_in key table)
  all_read values count so all = (
    record { gone = log.gone; changes = so.changes },
    record { gone = refl; records = sym (take_all count log.records all) ∙ so.are; short = so.short },
    so.values_are,
  )

held_same : (some other : List ℕ) → Some some ≡ Some other → some ≡ other
held_same some other is = ap (λ (o : Option (List ℕ)). unwrap_or o some) is

-- a record among those of changes is that of one
record_among : (changes : List Change) (count : ℕ) (bytes : List ℕ) → All IsShort changes → slice_get (map record_of changes) count ≡ Some bytes
    → (change : Change) × IsShort change × (bytes ≡ record_of change)
record_among [] count bytes short is = absurd (none-some bytes is)
record_among (c ∷ cs) zero bytes short is = (c, All-head IsShort c cs short, sym (held_same (record_of c) bytes is))
record_among (c ∷ cs) (suc count) bytes short is = record_among cs count bytes (All-tail IsShort c cs short) is

pub no_table : (log : Log) (table : Table) (count : ℕ) (bytes : List ℕ) → IsTable log table → slice_get log.records count ≡ Some bytes
    → ((change : Change) → length (key_of change) < 2 ^ 64 → bytes ≡ record_of change → ⊥) → ⊥
no_table log table count bytes is there none =
    let found = record_among table.changes count bytes is.short (ap (λ (rs : List (List ℕ)). slice_get rs count) (sym is.records) ∙ there) in
    none found.0 found.1 found.2
