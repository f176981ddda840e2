-- What calls of a table come to.
use Rattle.std.proofs.Common.{◌≡◌, ℕ, ◌-◌, ◌<◌, ◌^◌, List, [], ◌∷◌, ◌++◌, length, drop, refl, sym, ap, ◌∙◌}
use Rattle.std.specs.Prelude.{Option, None, fold, map}
use Rattle.std.proofs.lemmas.List.{drop-map, map-append}
use Rattle.std.proofs.lemmas.List.Elements.{All-drop, All-push}
use Rattle.std.proofs.lemmas.List.Sums.{fold-append}
use Rattle.journal_log.specs.Log.{Log}
use Rattle.journal_log.specs.Calls.{log_after, log_after_all}
use Rattle.table_log.specs.Changes.{Change, key_of, record_of, value_after, value_behind}
use Rattle.table_log.specs.Tables.{AreLawful, Changes, Cuts, IsLawful, IsTable, Rewrites, Table, TableCall, journal_call, table_after, value_behind_calls, value_in, value_told}

abbrev pub table_after_all : Table → List TableCall → Table
table_after_all table calls = fold table_after table calls

abbrev IsShort : Change → Type 0
IsShort change = length (key_of change) < 2 ^ 64

one_more : (log : Log) (table : Table) (change : Change) → IsTable log table → IsShort change
    → IsTable (record log { records = log.records ++ record_of change ∷ [] }) (record table { changes = table.changes ++ change ∷ [] })
one_more log table change is short = record {
  gone = is.gone;
  records = ap (λ (records : List (List ℕ)). records ++ record_of change ∷ []) is.records ∙ sym (map-append record_of table.changes (change ∷ []));
  short = All-push IsShort table.changes change is.short short;
}

-- the journal behind a call holds the table behind it
pub one_call : (lines : ℕ) (log : Log) (table : Table) (call : TableCall) → IsTable log table → IsLawful table call
    → IsTable (log_after lines log (journal_call call)) (table_after table call)
one_call lines log table (Changes change) is lawful = one_more log table change is lawful
one_call lines log table (Rewrites change) is lawful = one_more log table change is lawful.0
one_call lines log table (Cuts upto) is lawful = record {
  gone = refl;
  records = ap (drop (upto - log.gone)) is.records ∙ drop-map record_of (upto - log.gone) table.changes ∙ ap (λ (n : ℕ). map record_of (drop (upto - n) table.changes)) is.gone;
  short = All-drop IsShort (upto - table.gone) table.changes is.short;
}

pub calls_hold : (lines : ℕ) (log : Log) (table : Table) (calls : List TableCall) → IsTable log table → AreLawful table calls
    → IsTable (log_after_all lines log (map journal_call calls)) (table_after_all table calls)
calls_hold lines log table [] is lawful = is
calls_hold lines log table (call ∷ calls) is lawful =
    calls_hold lines (log_after lines log (journal_call call)) (table_after table call) calls (one_call lines log table call is lawful.0) lawful.1

-- a change is the last one
pub value_push : (key : List ℕ) (changes : List Change) (change : Change) → value_after key None (changes ++ change ∷ []) ≡ value_behind key (value_after key None changes) change
value_push key changes change = fold-append (value_behind key) None changes (change ∷ [])

one_value : (key : List ℕ) (table : Table) (call : TableCall) → IsLawful table call → value_in key (table_after table call) ≡ value_told key (value_in key table) call
one_value key table (Changes change) lawful = value_push key table.changes change
one_value key table (Rewrites change) lawful = value_push key table.changes change ∙ lawful.1 key
one_value key table (Cuts upto) lawful = lawful key

pub values_told : (key : List ℕ) (table : Table) (calls : List TableCall) → AreLawful table calls → value_in key (table_after_all table calls) ≡ value_behind_calls key (value_in key table) calls
values_told key table [] lawful = refl
values_told key table (call ∷ calls) lawful =
    values_told key (table_after table call) calls lawful.1 ∙ ap (λ (had : Option (List ℕ)). value_behind_calls key had calls) (one_value key table call lawful.0)

-- a first part of lawful calls
pub lawful_front : (table : Table) (calls later : List TableCall) → AreLawful table (calls ++ later) → AreLawful table calls
lawful_front table [] later lawful = tt
lawful_front table (call ∷ calls) later lawful = (lawful.0, lawful_front (table_after table call) calls later lawful.1)
