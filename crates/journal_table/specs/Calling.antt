-- What calls of a table on its journal come to.
use Rattle.std.specs.Prelude.{◌≡◌, All, ℕ, List, Vec, fold, map}
use Rattle.channel_port.specs.declared.port.ChannelPort.{Ghosts}
use Rattle.module_core.specs.declared.module.Module.{Module}
use Rattle.journal_log.specs.Log.{Log}
use Rattle.journal_log.specs.Calls.{AreAllowed, done_of, journal_writes, log_after_all, writes_of_call}
use Rattle.journal_lines.specs.declared.index.Index.{Index}
use Rattle.journal_lines.specs.Indexed.{IsIndexOf}
use Rattle.table_log.specs.Changes.{Change, Put}
use Rattle.table_log.specs.Tables.{AreLawful, Changes, Cuts, Rewrites, Table, TableCall, journal_call, table_after}
use Rattle.table_log.specs.Survival.{TableAttempt, calls_done, journal_attempt}
use Rattle.module_journal.specs.Writing.{HasWritten}
use Rattle.journal_table.specs.declared.table.JournalTable.{JournalTable}
use Rattle.journal_table.specs.Standing.{IsTableOf}

-- a call of which all writes were accepted
abbrev pub whole_call : TableCall → TableAttempt
whole_call call = record { call = call; made = writes_of_call (journal_call call) }

-- the journal and the table behind attempts
abbrev pub log_behind_calls : ℕ → Log → List TableAttempt → Log
log_behind_calls lines log attempts = log_after_all lines log (done_of (map journal_attempt attempts))

abbrev pub table_behind_calls : Table → List TableAttempt → Table
table_behind_calls table attempts = fold table_after table (calls_done attempts)

-- what each key of a map has, as the changes that say it
abbrev pub puts_of : {A : Type 0} → List (Vec ℕ A × Vec ℕ A) → List Change
puts_of entries = map (λ entry. Put entry.0.items entry.1.items) entries

-- and once more each
abbrev pub rewrites_of : {A : Type 0} → List (Vec ℕ A × Vec ℕ A) → List TableAttempt
rewrites_of entries = map (λ entry. whole_call (Rewrites (Put entry.0.items entry.1.items))) entries

-- a call that changes no value
abbrev pub ChangesNothing : TableCall → Type 0
ChangesNothing (Changes change) = ⊥
ChangesNothing (Rewrites change) = Unit {0}
ChangesNothing (Cuts upto) = Unit {0}

abbrev pub IsUpkeep : TableAttempt → Type 0
IsUpkeep a = ChangesNothing a.call

module _ {K : Type 0} (L : Ghosts K) (lines : ℕ) where
  -- Calls of a table in turn, and how many writes of each were accepted. Each was allowed where it came, those that were done are
  -- lawful, and the index is that of the journal behind them.
  pub record HasCalled (attempts : List TableAttempt) (log : Log) (table : Table) (index : Index) (old new : Module K L) : Type 0 where
    pub written : HasWritten L (journal_writes lines log (map journal_attempt attempts)) old new
    pub allowed : AreAllowed lines log (map journal_attempt attempts)
    pub lawful : AreLawful table (calls_done attempts)
    pub indexed : IsIndexOf index (log_behind_calls lines log attempts)

  -- Calls that change no value were made, each done but perhaps the last.
  pub record HasKeptUp (log : Log) (table : Table) (index : Index) (old new : Module K L) : Type 0 where
    pub attempts : List TableAttempt
    pub upkeep : All IsUpkeep attempts
    pub called : HasCalled attempts log table index old new

  -- They were made, and the program's table is the one behind them.
  pub record IsKeptUp (log : Log) (table : Table) (it : JournalTable) (old new : Module K L) : Type 0 where
    pub made : HasKeptUp log table it.journal.index old new
    pub now : IsTableOf it (log_behind_calls lines log made.attempts) (table_behind_calls table made.attempts)

  -- And of all changes there is one for each key that has a value.
  pub record IsCompacted (log : Log) (table : Table) (it : JournalTable) (old new : Module K L) : Type 0 where
    pub kept : IsKeptUp log table it old new
    pub lives : (table_behind_calls table kept.made.attempts).changes ≡ puts_of it.values.entries
