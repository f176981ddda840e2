-- The log of a channel, and what it tells.
use Rattle.std.specs.Prelude.{◌≡◌, ℕ, ◌<◌, ◌++◌, AllPairs, Bool, List, [], ◌∷◌, fold, length, slice_index_or, sum_by, true, false, Option, Some, None}
use Rattle.line_memory.specs.declared.parts.Numbered.{Numbered}
use Rattle.line_memory.specs.Parts.{AreBefore}
use Rattle.channel_log.specs.declared.entry.LogEntry.{LogEntry}
use Rattle.channel_log.specs.declared.entry.LogEntry.TheVariants.{Wrote, Looked, HeldFrom, Released, Ended}
use Rattle.channel_port.specs.Waits.{Waits, nothing}

-- an entry, and what waits on the channel from then on
pub record LogNote : Type 0 where
  pub entry : LogEntry
  pub waits : Waits

abbrev pub note_of : LogEntry → Waits → LogNote
note_of entry waits = record { entry = entry; waits = waits }

-- the writes that the channel was given, with their numbers; what waited on it as both locks were last held; from which number on
-- writes are held back from its array; and whether the life has ended
pub record Told : Type 0 where
  pub written : List Numbered
  pub waits : Waits
  pub hold : Option ℕ
  pub ended : Bool

-- what no entry tells
abbrev pub untold : Told
untold = record { written = []; waits = nothing; hold = None; ended = false }

-- what an entry tells, besides what waits
abbrev pub entry_tells : Told → LogEntry → Told
entry_tells t (Wrote write) = record t { written = t.written ++ write ∷ [] }
entry_tells t Looked = t
entry_tells t (HeldFrom number) = record t { hold = Some number }
entry_tells t Released = record t { hold = None }
entry_tells t Ended = record t { ended = true }

-- what is told after one more entry
abbrev pub told_after : Told → LogNote → Told
told_after t note = record (entry_tells t note.entry) { waits = note.waits }

-- what a log tells
abbrev pub log_tells : List LogNote → Told
log_tells log = fold told_after untold log

-- the credits that are out on a channel: one for each write that waited on it as both locks were last held
abbrev pub credits_of : List LogNote → ℕ
credits_of log = length (log_tells log).waits.writes

-- the credits that are out on all channels
abbrev pub credits_out : List (List LogNote) → ℕ
credits_out logs = sum_by credits_of logs

-- the numbers of a log rise
pub record IsLog (log : List LogNote) : Type 0 where
  pub rise : AllPairs (λ v w. v.number < w.number) (log_tells log).written

-- what an entry asks of the log that it comes behind
abbrev pub MayFollow : List LogNote → LogEntry → Type 0
MayFollow log (Wrote write) = AreBefore write.number (log_tells log).written
MayFollow log Looked = Unit {0}
MayFollow log (HeldFrom number) = Unit {0}
MayFollow log Released = Unit {0}
MayFollow log Ended = Unit {0}

-- among the logs of all channels this is the one of a channel
pub record IsLogOf (logs : List (List LogNote)) (channel : ℕ) (log : List LogNote) : Type 0 where
  pub there : channel < length logs
  pub same : slice_index_or logs channel [] ≡ log
