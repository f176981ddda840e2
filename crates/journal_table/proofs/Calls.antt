-- Calls of a table behind others.
use Rattle.std.proofs.Common.{◌≡◌, ◌∙◌, ◌≤◌, ℕ, List, [], ◌∷◌, ◌++◌, ap, append_assoc, arith, length, refl, subst, sym, take}
use Rattle.std.specs.Prelude.{Bool, true, false, fold, if◌then◌else◌, map}
use Rattle.std.proofs.lemmas.Bool.{le-ltb, lt-ltb}
use Rattle.std.proofs.lemmas.List.{append-nil, map-append, take_all}
use Rattle.std.proofs.lemmas.List.Sums.{fold-append}
use Rattle.line_memory.specs.declared.Write.{Write}
use Rattle.channel_port.specs.declared.port.ChannelPort.{Ghosts}
use Rattle.module_core.specs.declared.module.Module.{Module}
use Rattle.journal_log.specs.Log.{Log}
use Rattle.journal_log.specs.Calls.{AreAllowed, Attempt, Call, IsAllowed, attempt, call_writes, done_of, is_done, journal_writes, lines_before_head, log_after, log_after_all, log_behind, writes_of_call}
use Rattle.journal_log.proofs.Heads.{length-call}
use Rattle.journal_lines.specs.declared.index.Index.{Index}
use Rattle.journal_lines.specs.Indexed.{IsIndexOf}
use Rattle.table_log.specs.Tables.{AreLawful, IsLawful, Table, TableCall, journal_call, table_after}
use Rattle.table_log.specs.Survival.{TableAttempt, calls_done, journal_attempt}
use Rattle.table_log.proofs.Surviving.{done-append, done_calls}
use Rattle.module_journal.specs.Writing.{Accepts, HasWritten}
use Rattle.module_journal.proofs.Joining.{joined, none_written}
use Rattle.journal_table.specs.Calling.{HasCalled, log_behind_calls, table_behind_calls, whole_call}

-- an attempt before calls
behind_one : (lines : ℕ) (log : Log) (a : Attempt) (calls : List Call) → log_after_all lines log ((if is_done a then a.call ∷ [] else []) ++ calls) ≡ log_after_all lines (log_behind lines log a) calls
behind_one lines log a calls = by_flag (is_done a)
  where
    by_flag : (done : Bool) → log_after_all lines log ((if done then a.call ∷ [] else []) ++ calls) ≡ log_after_all lines (if done then log_after lines log a.call else log) calls
    by_flag true = refl
    by_flag false = refl

pub journal-append : (first more : List Attempt) (lines : ℕ) (log : Log)
    → journal_writes lines log (first ++ more) ≡ journal_writes lines log first ++ journal_writes lines (log_after_all lines log (done_of first)) more
journal-append [] more lines log = refl
journal-append (a ∷ first) more lines log =
    let here : List Write = take a.made (call_writes lines log a.call) in
    let mid : Log = log_behind lines log a in
    ap (λ (ws : List Write). here ++ ws) (journal-append first more lines mid)
    ∙ sym (append_assoc here (journal_writes lines mid first) (journal_writes lines (log_after_all lines mid (done_of first)) more))
    ∙ ap (λ (l : Log). (here ++ journal_writes lines mid first) ++ journal_writes lines l more) (sym (behind_one lines log a (done_of first)))

pub allowed-append : (first more : List Attempt) (lines : ℕ) (log : Log) → AreAllowed lines log first → AreAllowed lines (log_after_all lines log (done_of first)) more → AreAllowed lines log (first ++ more)
allowed-append [] more lines log one two = two
allowed-append (a ∷ first) more lines log one two =
    (one.0, allowed-append first more lines (log_behind lines log a) one.1 (subst (λ (l : Log). AreAllowed lines l more) (behind_one lines log a (done_of first)) two))

pub lawful-append : (first more : List TableCall) (table : Table) → AreLawful table first → AreLawful (fold table_after table first) more → AreLawful table (first ++ more)
lawful-append [] more table one two = two
lawful-append (call ∷ first) more table one two = (one.0, lawful-append first more (table_after table call) one.1 two)

-- the journal and the table behind calls and more of them
pub log_behind-append : (lines : ℕ) (log : Log) (first more : List TableAttempt) → log_behind_calls lines log (first ++ more) ≡ log_behind_calls lines (log_behind_calls lines log first) more
log_behind-append lines log first more =
    ap (log_after_all lines log) (done_calls (first ++ more) ∙ ap (map journal_call) (done-append first more) ∙ map-append journal_call (calls_done first) (calls_done more))
    ∙ fold-append (log_after lines) log (map journal_call (calls_done first)) (map journal_call (calls_done more))
    ∙ ap (λ (calls : List Call). log_after_all lines (log_after_all lines log calls) (map journal_call (calls_done more))) (sym (done_calls first))
    ∙ ap (log_after_all lines (log_behind_calls lines log first)) (sym (done_calls more))

pub table_behind-append : (table : Table) (first more : List TableAttempt) → table_behind_calls table (first ++ more) ≡ table_behind_calls (table_behind_calls table first) more
table_behind-append table first more =
    ap (fold table_after table) (done-append first more) ∙ fold-append table_after table (calls_done first) (calls_done more)

pub writes_behind : (first more : List TableAttempt) (lines : ℕ) (log : Log)
    → journal_writes lines log (map journal_attempt (first ++ more)) ≡ journal_writes lines log (map journal_attempt first) ++ journal_writes lines (log_behind_calls lines log first) (map journal_attempt more)
writes_behind first more lines log =
    ap (journal_writes lines log) (map-append journal_attempt first more) ∙ journal-append (map journal_attempt first) (map journal_attempt more) lines log

pub allowed_behind : (first more : List TableAttempt) (lines : ℕ) (log : Log) → AreAllowed lines log (map journal_attempt first) → AreAllowed lines (log_behind_calls lines log first) (map journal_attempt more)
    → AreAllowed lines log (map journal_attempt (first ++ more))
allowed_behind first more lines log one two =
    subst (AreAllowed lines log) (sym (map-append journal_attempt first more)) (allowed-append (map journal_attempt first) (map journal_attempt more) lines log one two)

pub lawful_behind : (first more : List TableAttempt) (table : Table) → AreLawful table (calls_done first) → AreLawful (table_behind_calls table first) (calls_done more) → AreLawful table (calls_done (first ++ more))
lawful_behind first more table one two = subst (AreLawful table) (sym (done-append first more)) (lawful-append (calls_done first) (calls_done more) table one two)

-- a call that was done, and one that wasn't
pub whole_is_done : (call : TableCall) → is_done (journal_attempt (whole_call call)) ≡ true
whole_is_done call = lt-ltb (length (lines_before_head (journal_call call))) (writes_of_call (journal_call call)) (omega arith)

pub part_is_not : (call : TableCall) (made : ℕ) → made ≤ length (lines_before_head (journal_call call)) → is_done (attempt (journal_call call) made) ≡ false
part_is_not call made few = le-ltb (length (lines_before_head (journal_call call))) made few

pub whole_done : (call : TableCall) → calls_done (whole_call call ∷ []) ≡ call ∷ []
whole_done call = ap (λ (b : Bool). (if b then call ∷ [] else []) ++ []) (whole_is_done call)

module _ {K : Type 0} (L : Ghosts K) (lines : ℕ) (log : Log) (table : Table) where
  pub then_called : (first more : List TableAttempt) (mid index : Index) (old middle new : Module K L) → HasCalled L lines first log table mid old middle
      → HasCalled L lines more (log_behind_calls lines log first) (table_behind_calls table first) index middle new → HasCalled L lines (first ++ more) log table index old new
  then_called first more mid index old middle new one two = record {
    written = λ device gauge.
        subst (λ (ws : List Write). Accepts L device gauge ws old new) (sym (writes_behind first more lines log))
        (joined L (journal_writes lines log (map journal_attempt first)) (journal_writes lines (log_behind_calls lines log first) (map journal_attempt more)) old middle new device gauge (one.written device gauge) (two.written device gauge));
    allowed = allowed_behind first more lines log one.allowed two.allowed;
    lawful = lawful_behind first more table one.lawful two.lawful;
    indexed = subst (IsIndexOf index) (sym (log_behind-append lines log first more)) two.indexed;
  }

  pub none_called : (index : Index) (it : Module K L) → IsIndexOf index log → HasCalled L lines [] log table index it it
  none_called index it is = record { written = none_written L it; allowed = tt; lawful = tt; indexed = is }

  pub one_called : (call : TableCall) (index : Index) (old new : Module K L) → HasWritten L (call_writes lines log (journal_call call)) old new → IsAllowed lines log (journal_call call)
      → IsLawful table call → IsIndexOf index (log_after lines log (journal_call call)) → HasCalled L lines (whole_call call ∷ []) log table index old new
  one_called call index old new written allowed lawful is =
      let writes : List Write = call_writes lines log (journal_call call) in
      let all : writes ≡ take (writes_of_call (journal_call call)) writes ++ [] =
      sym (take_all (writes_of_call (journal_call call)) writes (omega (arith, length-call lines log (journal_call call)))) ∙ sym (append-nil (take (writes_of_call (journal_call call)) writes)) in
      record {
        written = subst (λ (ws : List Write). HasWritten L ws old new) all written;
        allowed = (allowed, tt);
        lawful = subst (AreLawful table) (sym (whole_done call)) (lawful, tt);
        indexed = subst (λ (calls : List Call). IsIndexOf index (log_after_all lines log calls)) (sym (done_calls (whole_call call ∷ []) ∙ ap (map journal_call) (whole_done call))) is;
      }

  pub part_called : (call : TableCall) (made : ℕ) (index : Index) (old new : Module K L) → made ≤ length (lines_before_head (journal_call call))
      → HasWritten L (take made (call_writes lines log (journal_call call))) old new → IsAllowed lines log (journal_call call) → IsIndexOf index log
      → HasCalled L lines (record { call = call; made = made } ∷ []) log table index old new
  part_called call made index old new few written allowed is =
      let writes : List Write = take made (call_writes lines log (journal_call call)) in
      let not_done = part_is_not call made few in
      record {
        written = subst (λ (ws : List Write). HasWritten L ws old new) (sym (append-nil writes)) written;
        allowed = (allowed, tt);
        lawful = rw not_done tt;
        indexed = rw not_done is;
      }
