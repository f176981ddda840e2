-- The rule of the logs, and what a step tells its seat.
use Rattle.std.specs.Prelude.{◌≡◌, ℕ, ◌++◌, Bool, List, [], ◌∷◌, length, slice_set, true, false}
use mathlib.Core.Option.{some}
use lib.ListN.{get_elem?}
use Rattle.atomic_table.specs.Table.{State, Step, Me}
use Rattle.channel_log.specs.declared.entry.LogEntry.{LogEntry}
use Rattle.channel_port.specs.Waits.{Waits}
use Rattle.channel_log.specs.Log.{IsLogOf, LogNote, note_of}

-- what a seat knows: all logs, and the log of one channel
pub record SeatView : Type 0 where
  pub has_all : Bool
  pub logs : List (List LogNote)
  pub has_one : Bool
  pub channel : ℕ
  pub log : List LogNote

-- a seat's view; a seat of the logs holds no slot
abbrev pub LogSeat : Type 0
LogSeat = Me LogEntry SeatView

abbrev pub log_view : Bool → List (List LogNote) → Bool → ℕ → List LogNote → SeatView
log_view has_all logs has_one channel log = record { has_all = has_all; logs = logs; has_one = has_one; channel = channel; log = log }

-- the front's seat where there is no channel yet, and a seat that knows nothing any more
abbrev pub first_view : SeatView
first_view = log_view true [] false 0 []

abbrev pub no_view : SeatView
no_view = log_view false [] false 0 []

-- the front's seat once a further channel was dealt, and that channel's
abbrev pub dealt_view : SeatView → SeatView
dealt_view v = record v { logs = v.logs ++ [] ∷ [] }

abbrev pub channel_view : SeatView → SeatView
channel_view v = log_view false [] true (length v.logs) []

-- what a seat knows of its channel alone, what it knows of all, and a seat with both
abbrev pub channel_half : SeatView → SeatView
channel_half v = log_view false [] v.has_one v.channel v.log

abbrev pub front_half : SeatView → SeatView
front_half v = log_view v.has_all v.logs false 0 []

abbrev pub both_halves : SeatView → SeatView → SeatView
both_halves v w = log_view w.has_all w.logs v.has_one v.channel v.log

-- a seat with both, after an entry of its channel
abbrev pub noted_view : LogNote → SeatView → SeatView
noted_view note v =
    log_view v.has_all (slice_set v.logs v.channel (v.log ++ note ∷ [])) v.has_one v.channel (v.log ++ note ∷ [])

-- who knows all logs is the seat `front`, and who knows the log of a channel is that channel's one seat
pub record FitsLogs (front : ℕ) (seat_of : ℕ → ℕ) (logs : List (List LogNote)) (id : ℕ) (v : SeatView) : Type 0 where
  pub all_is : v.has_all ≡ true → (id ≡ front) × (v.logs ≡ logs)
  pub one_is : v.has_one ≡ true → (id ≡ seat_of v.channel) × IsLogOf logs v.channel v.log

-- the rule: all seats know the same logs
pub record KeepsLogRule (table : State LogEntry SeatView) : Type 0 where
  pub front : ℕ
  pub seat_of : ℕ → ℕ
  pub logs : List (List LogNote)
  pub fits : (id : ℕ) (v : SeatView) → get_elem? table.views id ≡ some v → FitsLogs front seat_of logs id v

abbrev pub NotesEntry : Waits → Step LogEntry → LogSeat → ℕ → LogSeat → Type 0
NotesEntry waits step before found after =
    IsLogOf before.0.logs before.0.channel before.0.log
    × ((entry : LogEntry) → step.said ≡ some entry → after.0 ≡ noted_view (note_of entry waits) before.0)
    × (after.1 ≡ [])

abbrev pub ComparesLogs : Step LogEntry → LogSeat → ℕ → LogSeat → Type 0
ComparesLogs step before found after =
    IsLogOf before.0.logs before.0.channel before.0.log × (after.0 ≡ before.0) × (after.1 ≡ [])
