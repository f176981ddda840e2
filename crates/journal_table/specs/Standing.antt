-- Which table a program's is.
use Rattle.std.specs.Prelude.{◌≡◌, List, ℕ}
use Rattle.journal_log.specs.Log.{Log}
use Rattle.journal_lines.specs.Indexed.{IsIndexOf}
use Rattle.table_log.specs.Tables.{IsTable, Table, value_in}
use Rattle.journal_table.specs.Values.{held}
use Rattle.journal_table.specs.declared.table.JournalTable.{JournalTable}

-- It knows where the records of a journal lie, these are a table's, and it holds the value of each key.
pub record IsTableOf (it : JournalTable) (log : Log) (table : Table) : Type 0 where
  pub index : IsIndexOf it.journal.index log
  pub is : IsTable log table
  pub values : (key : List ℕ) → held it.values key ≡ value_in key table
