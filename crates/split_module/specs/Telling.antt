-- What a machine says of each channel, and what the logs of the channels tell of it.
use Rattle.std.specs.Prelude.{◌≡◌, ◌==◌, ℕ, ◌<◌, ◌≤◌, ◌++◌, All, List, [], ◌∷◌, count_by, length, map, slice_index_or, slice_set, sum_by}
use Rattle.std.specs.List.{flat_map}
use Rattle.line_memory.specs.declared.parts.Numbered.{Numbered}
use Rattle.line_memory.specs.Parts.{written_on}
use Rattle.arm_state.specs.Modes.{has_ended}
use Rattle.channel_port.specs.Waits.{Waits, waiting}
use Rattle.channel_log.specs.Log.{LogNote, Told, log_tells}
use Rattle.nv_machine.specs.State.{Setup, Machine, hold_of, start_of_life}

-- the writes of the life that lie on a channel, with their numbers
abbrev pub written_in : Setup → Machine → ℕ → List Numbered
written_in setup m channel = written_on setup.shape.channel_of channel (start_of_life m.life) m.life.writes

-- what waits on each channel, laid out channel by channel
abbrev pub laid_out : List Waits → Waits
laid_out each = record {
  writes = flat_map (λ w. w.writes) each;
  reads = flat_map (λ w. w.reads) each;
  given = flat_map (λ w. w.given) each;
}

-- what waits on each channel, as the logs tell it
abbrev pub waits_told : List (List LogNote) → List Waits
waits_told logs = map (λ log. (log_tells log).waits) logs

-- what waits is a channel's own, and its tickets name it
pub record AreOwn (channel : ℕ) (waits : Waits) : Type 0 where
  pub writes : All (λ v. v.channel ≡ channel) waits.writes
  pub reads : All (λ r. r.ticket.channel ≡ channel) waits.reads
  pub given : All (λ t. t.channel ≡ channel) waits.given

-- What is told of a channel is what the machine says of it: the writes that lie on it, from which number on writes are held,
-- and whether the life has ended. What is told to wait on it is its own.
pub record IsToldOf (setup : Setup) (m : Machine) (channel : ℕ) (told : Told) : Type 0 where
  pub written : told.written ≡ written_in setup m channel
  pub hold : told.hold ≡ hold_of m.store.saving
  pub ended : told.ended ≡ has_ended m.mode
  pub own : AreOwn channel told.waits

-- The logs tell of each channel what the machine says of it, and what waits in the machine is what they tell to wait. There is
-- a log for each channel, and each write of the life lies on one of the channels.
pub record AreLogsOf (setup : Setup) (m : Machine) (logs : List (List LogNote)) : Type 0 where
  pub told : (channel : ℕ) → channel < length logs → IsToldOf setup m channel (log_tells (slice_index_or logs channel []))
  pub waits : m.waits ≡ laid_out (waits_told logs)
  pub enough : setup.shape.channels ≤ length logs
  pub lie : All (λ w. setup.shape.channel_of w.line < setup.shape.channels) m.life.writes

-- the logs with one more note of a channel
abbrev pub with_note : ℕ → List LogNote → LogNote → List (List LogNote) → List (List LogNote)
with_note channel log note logs = slice_set logs channel (log ++ note ∷ [])

-- how often a number stands in a log, and in all logs
abbrev pub times_in : ℕ → List LogNote → ℕ
times_in number log = count_by (λ w. w.number == number) (log_tells log).written

abbrev pub times_logged : ℕ → List (List LogNote) → ℕ
times_logged number logs = sum_by (times_in number) logs

-- a write of this number waits on the channel behind the others
abbrev pub with_waiting : ℕ → ℕ → Waits → Waits
with_waiting number channel waits = record waits { writes = waits.writes ++ waiting number channel ∷ [] }
