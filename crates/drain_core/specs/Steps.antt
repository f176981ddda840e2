-- What the parts of a drain do to a channel.
use Rattle.std.specs.Prelude.{◌≡◌, ℕ, ◌+◌, ◌-◌, ◌*◌, ◌^◌, ◌<◌, ◌≤◌, List, [], ◌∷◌, ◌++◌, take, drop, map, length, All, ◌↔◌, Option, Some, None}
use Rattle.std.specs.List.{sum_by}
use Rattle.ddr4_timing.specs.declared.command.Stamped.{Stamped}
use Rattle.ddr4_timing.specs.declared.place.Place.{Place}
use Rattle.ddr4_timing.specs.Limits.{entry_of, close_of}
use Rattle.ddr4_timing.specs.Lawful.{KeepsRows, last_ref}
use Rattle.ddr4_timing.specs.Command.{rank_of}
use Rattle.ddr4_timing.specs.declared.command.Command.{Command}
use Rattle.ddr4_timing.specs.declared.timing.Checked.{Checked}
use Rattle.request_notes.specs.declared.pending.Kind.TheVariants.{Write}
use Rattle.frfcfs.specs.Margin.{AreAsleep}
use Rattle.energy_budget.specs.declared.costs.CostNumbers.{CostNumbers}
use Rattle.energy_budget.specs.CostNumbers.{command_cost}
use Rattle.wpq_core.specs.PendingMemory.{after_pending}
use Rattle.chan_core.specs.Singles.{writes_by}
use Rattle.chan_core.specs.State.{ChannelState, channel_memory, placed_writes}
use Rattle.chan_core.specs.declared.phase.Phase.TheVariants.{Asleep}
use Rattle.drain_core.specs.declared.steps.StepEnd.{StepEnd}
use Rattle.drain_core.specs.Drain.{Progress, drain_start, drain_of, drain_clocks, drain_spent, entry_step_of, next_clock, with_earliest}
use Rattle.drain_core.specs.Standing.{IsBetweenSteps}

-- a channel's commands so far, and the clock from which the next may go
abbrev pub progress_of : ChannelState → ℕ → Progress
progress_of s clock = record { list = s.commands; clock = clock }

-- where a channel's drain starts
abbrev pub drain_start_of : ChannelState → Progress
drain_start_of s = progress_of s (drain_start s.commands)

-- the places of the pending writes, oldest first
abbrev pub pending_places : ChannelState → List Place
pending_places s = map (λ w. w.1) (placed_writes s)

-- The command may go next: the banks are as it wants them, and its rank's deadline is to come.
pub record MayGo (c : Checked) (p : Progress) (cmd : Command) : Type 0 where
  pub rows : KeepsRows c.geometry p.list cmd
  pub in_time : next_clock c.timing cmd p ≤ last_ref (rank_of cmd) p.list + 9 * c.timing.t_refi

-- its clock is in range
abbrev pub GoesEarly : ChannelState → Command → ℕ → Type 0
GoesEarly s cmd clock = next_clock s.checked.timing cmd (progress_of s clock) < 2 ^ 63

-- the clock by which a channel's close step ends and every rank had its SRE, where no entry follows
abbrev pub closed_by : ChannelState → ℕ
closed_by s = drain_start s.commands + close_of s.checked.timing s.checked.geometry

-- the clock by which an entry step ends that starts at this one
abbrev pub entered_by : ChannelState → ℕ → ℕ
entered_by s clock = clock + entry_of s.checked.timing s.checked.geometry

-- what these commands cost
abbrev pub commands_cost : CostNumbers → List Stamped → ℕ
commands_cost n commands = sum_by (λ x. command_cost n x.cmd) commands

-- Commands that cost so much were issued behind the others.
pub record IssuesFor (n : CostNumbers) (cost : ℕ) (old new : List Stamped) : Type 0 where
  pub commands : List Stamped
  pub list : new ≡ old ++ commands
  pub is : cost ≡ commands_cost n commands

-- So many of the oldest pending writes went into the array, held or not. The commands, the phase and the reads may change, but
-- no read comes, and all else stays.
pub record TakesOldest (count : ℕ) (old new : ChannelState) : Type 0 where
  pub same : new ≡ record old {
    array = after_pending old.array (take count old.writes);
    writes = drop count old.writes;
    tickets = new.tickets;
    requests = new.requests;
    commands = new.commands;
    phase = new.phase;
  }
  pub placed : placed_writes new ≡ drop count (placed_writes old)
  pub lost : old.tickets ≡ [] → new.tickets ≡ []

-- A part of a drain goes as far as the progress p, and so many of the oldest writes are in the array.
pub record GoesTo (n : CostNumbers) (p : Progress) (count : ℕ) (old new : ChannelState) (end : StepEnd) : Type 0 where
  pub progress : progress_of new end.clock ≡ p
  pub cost : IssuesFor n end.cost old.commands new.commands
  pub takes : TakesOldest count old new

-- One more command goes where a part ended, at its earliest clock from there.
pub record GoesNext (n : CostNumbers) (cmd : Command) (old new : ChannelState) (before after : StepEnd) : Type 0 where
  pub progress : progress_of new after.clock ≡ with_earliest old.checked.timing cmd (progress_of old before.clock)
  pub cost : after.cost ≡ before.cost + command_cost n cmd
  pub takes : TakesOldest (writes_by cmd) old new

-- Single commands were issued: all reads are lost, and the channel sleeps where every rank does.
pub record IsStepped (s : ChannelState) : Type 0 where
  pub tickets : s.tickets ≡ []
  pub requests : All (λ p. p.kind ≡ Write) s.requests
  pub phase : (s.phase ≡ Asleep) ↔ AreAsleep s.checked s.commands

-- a clock at which a part of a drain may begin
abbrev pub IsEarly : ℕ → Type 0
IsEarly clock = clock < 2 ^ 63 - 2 ^ 31

-- a channel between two parts of a drain
abbrev pub MayEnter : ChannelState → ℕ → Type 0
MayEnter s clock = IsBetweenSteps s.checked (progress_of s clock)

-- An entry step from the clock on: where no write is pending there is none; else it is that of the oldest one.
abbrev pub EntersOldest : CostNumbers → ChannelState → ℕ → Option StepEnd → ChannelState → Type 0
EntersOldest n old clock None new = (old.writes ≡ []) × (new ≡ old)
EntersOldest n old clock (Some end) new =
    (number : ℕ) × (place : Place) × (rest : List (ℕ × Place)) × (placed_writes old ≡ (number, place) ∷ rest)
    × GoesTo n (entry_step_of old.checked.timing old.checked.geometry place (progress_of old clock)) 1 old new end

-- the commands and clocks of a channel's drain
abbrev pub drain_of_channel : ChannelState → Progress
drain_of_channel s = drain_of s.checked.timing s.checked.geometry s.commands (pending_places s)

-- how many clocks it takes, and how many it may take
abbrev pub clocks_of : ChannelState → ℕ
clocks_of s = drain_clocks s.checked.timing s.checked.geometry s.commands (pending_places s)

abbrev pub most_clocks : ChannelState → ℕ
most_clocks s = close_of s.checked.timing s.checked.geometry + length s.writes * entry_of s.checked.timing s.checked.geometry

-- what it spends
abbrev pub spent_by : CostNumbers → ChannelState → ℕ
spent_by n s = drain_spent n s.checked.timing s.checked.geometry s.commands (pending_places s)

-- A channel after its drain: nothing is pending, its array is its memory, and every rank sleeps.
abbrev pub drained : ChannelState → ChannelState
drained s = record s {
  array = channel_memory s;
  writes = [];
  tickets = [];
  requests = [];
  commands = (drain_of_channel s).list;
  phase = Asleep;
}
