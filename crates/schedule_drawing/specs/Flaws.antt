-- The commands that break a rule, as they are drawn.
use Rattle.std.specs.Prelude.{◌≡◌, ℕ, ◌==◌, ◌++◌, List, [], ◌∷◌, Option, filter, filter_map, map, slice_get}
use Rattle.std.specs.List.{range_with_len}
use Rattle.std.specs.Option.{option_map}
use Rattle.ddr4_timing.specs.declared.command.Stamped.{Stamped}
use Rattle.ddr4_timing.specs.declared.fault.Fault.{Fault}
use Rattle.ddr4_timing.specs.declared.timing.CommandRules.{CommandRules}
use Rattle.all_faults.specs.Faults.{AreFaultsOf}
use Rattle.command_trace.specs.declared.entry.ChannelCommand.{ChannelCommand}
use Rattle.schedule_drawing.specs.declared.flaws.Flaw.{Flaw}
use Rattle.schedule_drawing.specs.Lanes.{lane_of}

-- those of a channel
abbrev pub entries_in : ℕ → List ChannelCommand → List ChannelCommand
entries_in channel entries = filter (λ entry. entry.channel == channel) entries

abbrev pub commands_in : List ChannelCommand → List Stamped
commands_in entries = map (λ entry. entry.command) entries

-- a fault of commands, in the lane of its command and at its clock
abbrev pub flaw_told : List ChannelCommand → Fault → Option Flaw
flaw_told own fault = option_map (λ entry. record { lane = lane_of entry; clock = entry.command.clock; rule = fault.rule }) (slice_get own fault.second)

-- the faults of a channel's commands are drawn, each where its command goes
pub record AddsFlaws (c : CommandRules) (channel : ℕ) (entries : List ChannelCommand) (old new : List Flaw) : Type 0 where
  pub faults : List Fault
  pub are : AreFaultsOf c (commands_in (entries_in channel entries)) faults
  pub is : new ≡ old ++ filter_map (flaw_told (entries_in channel entries)) faults

-- those of one channel after the other
abbrev pub AddsAll : CommandRules → List ChannelCommand → List ℕ → List Flaw → List Flaw → Type 0
AddsAll c entries [] old new = new ≡ old
AddsAll c entries (channel ∷ rest) old new = (between : List Flaw) × AddsFlaws c channel entries old between × AddsAll c entries rest between new

-- These are the faults of all channels' commands, as they are drawn.
abbrev pub AreFlawsOf : CommandRules → List ChannelCommand → List Flaw → Type 0
AreFlawsOf c entries flaws = AddsAll c entries (range_with_len 0 c.geometry.channels) [] flaws
