-- The calls of a journal, the writes that they make, and which of them a first part of the writes holds.
use Rattle.std.specs.Prelude.{◌≡◌, ℕ, ◌+◌, ◌-◌, ◌<◌, ◌≤◌, ◌%◌, ◌^◌, Bool, List, [], ◌∷◌, ◌++◌, fold, length, take, drop, min, nat_lt, if◌then◌else◌}
use Rattle.line_memory.specs.declared.Write.{Write}
use Rattle.journal_log.specs.Lines.{lines_of, size_of, sizes_of}
use Rattle.journal_log.specs.Log.{Log, end_of, head_of, used_by}

-- A record goes behind the others, or the records below a number go.
pub data Call : Type 0 where
  Append : List ℕ → Call
  Truncate : ℕ → Call

-- the journal behind a call, in a memory of so many lines
abbrev pub log_after : ℕ → Log → Call → Log
log_after lines log (Append bytes) = record log { records = log.records ++ bytes ∷ [] }
log_after lines log (Truncate upto) = record {
  gone = upto;
  first = (log.first + sizes_of (take (upto - log.gone) log.records)) % (lines - 1);
  records = drop (upto - log.gone) log.records;
}

abbrev pub log_after_all : ℕ → Log → List Call → Log
log_after_all lines log calls = fold (log_after lines) log calls

-- The record has the lines that it needs; or there are records below the number, and it isn't past their end.
abbrev pub IsAllowed : ℕ → Log → Call → Type 0
IsAllowed lines log (Append bytes) = (used_by log + size_of bytes < lines) × (log.gone + (used_by log + size_of bytes) < 2 ^ 64)
IsAllowed lines log (Truncate upto) = (log.gone < upto) × (upto ≤ end_of log)

-- lines written one behind another in the ring, from this place on
abbrev pub placed : ℕ → ℕ → List (List ℕ) → List Write
placed lines at [] = []
placed lines at (line ∷ rest) = record { line = 1 + at % (lines - 1); «data» = line } ∷ placed lines (at + 1) rest

abbrev pub head_write : Log → Write
head_write log = record { line = 0; «data» = head_of log }

-- the lines that a call writes before the head
abbrev pub lines_before_head : Call → List (List ℕ)
lines_before_head (Append bytes) = lines_of bytes
lines_before_head (Truncate upto) = []

-- The writes of a call: the lines of a record behind those in use, and the head last.
abbrev pub call_writes : ℕ → Log → Call → List Write
call_writes lines log call = placed lines (log.first + used_by log) (lines_before_head call) ++ head_write (log_after lines log call) ∷ []

abbrev pub writes_of_call : Call → ℕ
writes_of_call call = length (lines_before_head call) + 1

-- A call, and how many of its writes were accepted before one was refused, or before it was done.
pub record Attempt : Type 0 where
  pub call : Call
  pub made : ℕ

abbrev pub attempt : Call → ℕ → Attempt
attempt call made = record { call = call; made = made }

-- whether its head is among them
abbrev pub is_done : Attempt → Bool
is_done a = nat_lt (length (lines_before_head a.call)) a.made

abbrev pub log_behind : ℕ → Log → Attempt → Log
log_behind lines log a = if is_done a then log_after lines log a.call else log

-- the writes of attempts, one behind another
abbrev pub journal_writes : ℕ → Log → List Attempt → List Write
journal_writes lines log [] = []
journal_writes lines log (a ∷ rest) = take a.made (call_writes lines log a.call) ++ journal_writes lines (log_behind lines log a) rest

-- each of them was allowed where it came
abbrev pub AreAllowed : ℕ → Log → List Attempt → Type 0
AreAllowed lines log [] = Unit {0}
AreAllowed lines log (a ∷ rest) = IsAllowed lines log a.call × AreAllowed lines (log_behind lines log a) rest

-- how many writes attempts made
abbrev pub writes_made : Attempt → ℕ
writes_made a = min a.made (writes_of_call a.call)

abbrev pub writes_in : List Attempt → ℕ
writes_in [] = 0
writes_in (a ∷ rest) = writes_made a + writes_in rest

-- the attempts whose head is written, as calls
abbrev pub done_of : List Attempt → List Call
done_of [] = []
done_of (a ∷ rest) = (if is_done a then a.call ∷ [] else []) ++ done_of rest

-- the attempts up to the first n of their writes
abbrev pub upto_write : ℕ → List Attempt → List Attempt
upto_write n [] = []
upto_write n (a ∷ rest) = attempt a.call (min n a.made) ∷ (if nat_lt n (writes_made a) then [] else upto_write (n - writes_made a) rest)

-- the calls whose head is among the first n writes
abbrev pub kept_in : ℕ → List Attempt → List Call
kept_in n attempts = done_of (upto_write n attempts)

-- what a reader sees of calls: the records that they appended, and how many records are gone behind them
abbrev pub appended_in : List Call → List (List ℕ)
appended_in [] = []
appended_in (Append bytes ∷ rest) = bytes ∷ appended_in rest
appended_in (Truncate upto ∷ rest) = appended_in rest

abbrev pub gone_after : ℕ → List Call → ℕ
gone_after gone [] = gone
gone_after gone (Append bytes ∷ rest) = gone_after gone rest
gone_after gone (Truncate upto ∷ rest) = gone_after upto rest

-- The journal behind calls, as a reader sees it: of the records that were there and those that the calls appended, the ones
-- that are gone aren't there, and all others are, in their order.
pub record IsReadAs (old : Log) (calls : List Call) (new : Log) : Type 0 where
  pub gone : new.gone ≡ gone_after old.gone calls
  pub forward : old.gone ≤ new.gone
  pub records : new.records ≡ drop (new.gone - old.gone) (old.records ++ appended_in calls)
  pub end : end_of new ≡ end_of old + length (appended_in calls)
