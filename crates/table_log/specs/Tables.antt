-- A table in a journal, and what its calls make of it.
use Rattle.std.specs.Prelude.{◌≡◌, ◌-◌, ◌<◌, ◌^◌, All, ℕ, List, [], ◌∷◌, ◌++◌, drop, fold, length, map, Option, None}
use Rattle.journal_log.specs.Calls.{Append, Call, Truncate}
use Rattle.journal_log.specs.Log.{Log}
use Rattle.table_log.specs.Changes.{Change, key_of, record_of, value_after, value_behind}

-- A table is the changes that are there, and how many were cut from their front.
pub record Table : Type 0 where
  pub gone : ℕ
  pub changes : List Change

-- what a key has in it
abbrev pub value_in : List ℕ → Table → Option (List ℕ)
value_in key table = value_after key None table.changes

-- A journal's records are those of a table.
pub record IsTable (log : Log) (table : Table) : Type 0 where
  pub gone : log.gone ≡ table.gone
  pub records : log.records ≡ map record_of table.changes
  pub short : All (λ change. length (key_of change) < 2 ^ 64) table.changes

-- A call of a table on its journal: a change is appended; or, in a compaction, what a key has is appended once more, and the
-- changes below a number are cut.
pub data TableCall : Type 0 where
  Changes : Change → TableCall
  Rewrites : Change → TableCall
  Cuts : ℕ → TableCall

abbrev pub journal_call : TableCall → Call
journal_call (Changes change) = Append (record_of change)
journal_call (Rewrites change) = Append (record_of change)
journal_call (Cuts upto) = Truncate upto

abbrev pub table_after : Table → TableCall → Table
table_after table (Changes change) = record table { changes = table.changes ++ change ∷ [] }
table_after table (Rewrites change) = record table { changes = table.changes ++ change ∷ [] }
table_after table (Cuts upto) = record { gone = upto; changes = drop (upto - table.gone) table.changes }

-- What is rewritten is so already, and all that lives stands behind what is cut.
abbrev pub IsLawful : Table → TableCall → Type 0
IsLawful table (Changes change) = length (key_of change) < 2 ^ 64
IsLawful table (Rewrites change) = (length (key_of change) < 2 ^ 64) × ((key : List ℕ) → value_behind key (value_in key table) change ≡ value_in key table)
IsLawful table (Cuts upto) = (key : List ℕ) → value_in key (table_after table (Cuts upto)) ≡ value_in key table

-- each of them where it comes
abbrev pub AreLawful : Table → List TableCall → Type 0
AreLawful table [] = Unit {0}
AreLawful table (call ∷ calls) = IsLawful table call × AreLawful (table_after table call) calls

-- what a key has behind calls, by what it had before: each change of it counts, and nothing else does
abbrev pub value_told : List ℕ → Option (List ℕ) → TableCall → Option (List ℕ)
value_told key had (Changes change) = value_behind key had change
value_told key had (Rewrites change) = had
value_told key had (Cuts upto) = had

abbrev pub value_behind_calls : List ℕ → Option (List ℕ) → List TableCall → Option (List ℕ)
value_behind_calls key had calls = fold (value_told key) had calls
