-- What drains side by side ask for, and what they report.
use Rattle.std.specs.Prelude.{◌≡◌, ℕ, ◌+◌, ◌<◌, ◌≤◌, All, List, length, map, slice_get, slice_index_or, Option, None, option_map}
use Rattle.energy_budget.specs.declared.costs.CostNumbers.{CostNumbers}
use Rattle.energy_budget.specs.declared.costs.Costs.{Costs}
use Rattle.energy_budget.specs.Costs.{AreReckonedFor}
use Rattle.chan_core.specs.State.{ChannelState}
use Rattle.drain_core.specs.declared.report.DrainReport.{DrainReport}
use Rattle.drain_core.specs.Standing.{CanDrain}
use Rattle.drain_core.specs.Steps.{clocks_of, drained, spent_by}

-- this channel may be drained, and the costs are reckoned for it
abbrev pub CanDrainAt : Costs → ChannelState → Type 0
CanDrainAt costs s = AreReckonedFor s.checked costs × CanDrain s.checked s.commands

-- each of these channels may be
abbrev pub CanAllDrain : Costs → List ChannelState → Type 0
CanAllDrain costs channels = All (CanDrainAt costs) channels

-- These may be, and are some of eight: those from this number on.
abbrev pub CanDrainFrom : Costs → ℕ → List ChannelState → Type 0
CanDrainFrom costs first channels = (first + length channels ≤ 8) × CanAllDrain costs channels

-- what a channel's drain reports
abbrev pub report_of : CostNumbers → ChannelState → DrainReport
report_of numbers s = record { clocks = clocks_of s; spent = spent_by numbers s }

-- a report for each channel at its place, and none behind them
abbrev pub AreReports : CostNumbers → List ChannelState → List (Option DrainReport) → Type 0
AreReports numbers channels reports =
    (i : ℕ) → i < 8 → slice_index_or reports i None ≡ option_map (report_of numbers) (slice_get channels i)

-- each was drained, and its report stands at its place
abbrev pub AreDrained : Costs → List ChannelState → List (Option DrainReport) → List ChannelState → Type 0
AreDrained costs old reports new = (new ≡ map drained old) × AreReports costs.numbers old reports
