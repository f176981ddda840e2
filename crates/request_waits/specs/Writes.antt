-- How long writes waited for their WR.
use Rattle.std.specs.Prelude.{ℕ, ◌+◌, ◌-◌, ◌==◌, ◌&&◌, Bool, false, List, [], ◌∷◌, ◌++◌, Option, None, Some, count_by, filter, fold, if◌then◌else◌, option_to_list, slice_get, take}
use Rattle.std.specs.Option.{option_map}
use Rattle.ddr4_timing.specs.Lawful.{row_after}
use Rattle.ddr4_timing.specs.Places.{bank_at, is_bank}
use Rattle.ddr4_timing.specs.declared.command.Command.{Command}
use Rattle.ddr4_timing.specs.declared.command.Command.TheVariants.{Wr}
use Rattle.ddr4_timing.specs.declared.command.Stamped.{Stamped}
use Rattle.ddr4_timing.specs.declared.place.Place.{Place}
use Rattle.request_waits.specs.declared.writes.AcceptedWrite.{AcceptedWrite}

-- the clock of a channel behind the first of its commands: that of the last one of them, 0 where there is none
abbrev pub clock_after : List Stamped → ℕ → ℕ
clock_after commands count = fold (λ last x. x.clock) 0 (take count commands)

-- the two are places of one line
abbrev pub is_place : Place → Place → Bool
is_place a b = is_bank (bank_at a) (bank_at b) && a.row == b.row && a.column == b.column

-- this row is the one that is open
abbrev pub is_open : ℕ → Option ℕ → Bool
is_open row None = false
is_open row (Some opened) = opened == row

-- a WR that goes to a place, where this row is open in the place's bank
abbrev pub is_write_to : Place → Option ℕ → Command → Bool
is_write_to place row (Wr at column) = is_bank at (bank_at place) && column == place.column && is_open place.row row
is_write_to place row other = false

-- The clocks of the WR that go to a place, in turn, where this row is open in its bank before the commands
abbrev pub write_clocks_behind : Place → Option ℕ → List Stamped → List ℕ
write_clocks_behind place row [] = []
write_clocks_behind place row (x ∷ later) =
    (if is_write_to place row x.cmd then x.clock ∷ [] else []) ++ write_clocks_behind place (row_after (bank_at place) row x.cmd) later

-- and from the beginning of a channel, where all banks are closed
abbrev pub write_clocks : Place → List Stamped → List ℕ
write_clocks place commands = write_clocks_behind place None commands

-- The clock of a write's WR, if that went: the writes of one line go in turn, so as many WR of its place go before it as writes of its
-- line were accepted before it.
abbrev pub issued_at : List Stamped → List AcceptedWrite → AcceptedWrite → Option ℕ
issued_at commands before write = slice_get (write_clocks write.place commands) (count_by (λ w. is_place w.place write.place) before)

-- how long the later ones of a channel's writes waited, of those whose WR went
abbrev pub waits_behind : List Stamped → List AcceptedWrite → List AcceptedWrite → List ℕ
waits_behind commands before [] = []
waits_behind commands before (w ∷ later) =
    option_to_list (option_map (λ clock. clock - w.clock) (issued_at commands before w)) ++ waits_behind commands (before ++ w ∷ []) later

-- and all of them
abbrev pub channel_waits_of : List Stamped → List AcceptedWrite → List ℕ
channel_waits_of commands writes = waits_behind commands [] writes

-- the writes that a channel accepted
abbrev pub writes_on : ℕ → List AcceptedWrite → List AcceptedWrite
writes_on channel writes = filter (λ w. w.place.channel == channel) writes

-- how long a life's writes waited on the channels from this one on, by the commands of each,
abbrev pub waits_from : ℕ → List (List Stamped) → List AcceptedWrite → List ℕ
waits_from channel [] writes = []
waits_from channel (commands ∷ later) writes = channel_waits_of commands (writes_on channel writes) ++ waits_from (channel + 1) later writes

-- and on all of them
abbrev pub write_waits_of : List (List Stamped) → List AcceptedWrite → List ℕ
write_waits_of channels writes = waits_from 0 channels writes
