-- What the seats are to their callers, and what becomes of them with an entry.
use Rattle.std.specs.Prelude.{◌≡◌, ℕ, ◌++◌, List, [], ◌∷◌, slice_set}
use Rattle.atomic_table.specs.Seated.{TableId}
use Rattle.channel_log.specs.Log.{IsLogOf, LogNote}

-- the table of the front's seat, and the log of each channel
pub record AllLogs : Type 0 where
  pub table : TableId
  pub logs : List (List LogNote)

-- the table of a channel's seat, its channel, and the channel's log
pub record OneLog : Type 0 where
  pub table : TableId
  pub channel : ℕ
  pub log : List LogNote

abbrev pub all_logs : TableId → List (List LogNote) → AllLogs
all_logs table logs = record { table = table; logs = logs }

abbrev pub one_log : TableId → ℕ → List LogNote → OneLog
one_log table channel log = record { table = table; channel = channel; log = log }

-- both seats are of this table
pub record AreOf (table : TableId) (front : AllLogs) (seat : OneLog) : Type 0 where
  pub front_is : front.table ≡ table
  pub seat_is : seat.table ≡ table

-- Both seats knew the same of the channel, and have the note behind its log. No other log has changed.
pub record IsNoted (note : LogNote) (front : AllLogs) (seat : OneLog) (new_front : AllLogs) (new_seat : OneLog) : Type 0 where
  pub agreed : IsLogOf front.logs seat.channel seat.log
  pub seat_is : new_seat ≡ record seat { log = seat.log ++ note ∷ [] }
  pub front_is : new_front ≡ record front { logs = slice_set front.logs seat.channel new_seat.log }
