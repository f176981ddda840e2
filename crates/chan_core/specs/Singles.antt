-- Single commands, which the scheduler didn't choose.
use Rattle.std.specs.Prelude.{◌≡◌, ◌≢◌, ℕ, ◌+◌, ◌*◌, ◌≤◌, ◌↔◌, Option, Some, None, List, [], ◌∷◌, ◌++◌, All, take, drop, slice_get}
use Rattle.ddr4_timing.specs.declared.command.Command.{Command}
use Rattle.ddr4_timing.specs.declared.command.Command.TheVariants.{Wr}
use Rattle.ddr4_timing.specs.declared.command.Stamped.{Stamped}
use Rattle.ddr4_timing.specs.declared.place.Place.{Place}
use Rattle.ddr4_timing.specs.declared.timing.Checked.{Checked}
use Rattle.ddr4_timing.specs.Command.{rank_of}
use Rattle.ddr4_timing.specs.Floors.{least_clock}
use Rattle.ddr4_timing.specs.Lawful.{IsLawful, KeepsRows, last_ref, open_row, with_command}
use Rattle.ddr4_timing.specs.Places.{bank_at}
use Rattle.request_notes.specs.declared.pending.Kind.TheVariants.{Write}
use Rattle.wpq_core.specs.PendingMemory.{after_pending}
use Rattle.chan_core.specs.declared.phase.Phase.TheVariants.{Running}
use Rattle.chan_core.specs.Phases.{TellsSleep}
use Rattle.chan_core.specs.State.{ChannelState, placed_writes}

-- The least clock at which a command may go behind a list, if there is one: it may go from then on up to nine intervals after
-- the last REF of its rank, and None says that it may go at no clock.
abbrev pub IsEarliest : Checked → List Stamped → Command → Option ℕ → Type 0
IsEarliest c list cmd None = (¬ KeepsRows c.geometry list cmd) × ((k : ℕ) → ¬ IsLawful c (with_command list k cmd))
IsEarliest c list cmd (Some clock) =
    KeepsRows c.geometry list cmd × (clock ≡ least_clock c.timing list cmd)
    × ((k : ℕ) → (IsLawful c (with_command list k cmd) ↔ ((clock ≤ k) × (k ≤ last_ref (rank_of cmd) list + 9 * c.timing.t_refi))))

-- A WR has to be the oldest pending write's, whose row is open.
abbrev pub FitsOldest : ChannelState → Command → Type 0
FitsOldest s (Wr at column) =
    (number : ℕ) × (place : Place) × (slice_get (placed_writes s) 0 ≡ Some (number, place))
    × (at ≡ bank_at place) × (column ≡ place.column) × (open_row at s.commands ≡ Some place.row)
FitsOldest s _ = Unit {0}

-- how many pending writes a single command puts into the array
abbrev pub writes_by : Command → ℕ
writes_by (Wr at column) = 1
writes_by _ = 0

-- A single command: a WR puts the oldest pending write into the array, held or not. All reads are lost.
pub record IssuesAlone (old : ChannelState) (command : Stamped) (new : ChannelState) : Type 0 where
  pub same : new ≡ record old {
    array = after_pending old.array (take (writes_by command.cmd) old.writes);
    writes = drop (writes_by command.cmd) old.writes;
    tickets = [];
    requests = new.requests;
    commands = old.commands ++ command ∷ [];
    phase = new.phase;
  }
  pub placed : placed_writes new ≡ drop (writes_by command.cmd) (placed_writes old)
  pub writes_only : All (λ p. p.kind ≡ Write) new.requests
  pub single : new.phase ≢ Running
  pub asleep : TellsSleep new.phase new.checked new.commands
