-- For which commands the margins of a rank stand.
use Rattle.std.specs.Prelude.{◌≡◌, ℕ, ◌+◌, ◌-◌, ◌*◌, ◌<◌, ◌^◌, ◌==◌, if◌then◌else◌, min, max, List, Some, slice_index_or}
use Rattle.auto_precharge.specs.Unfolding.{plain_commands}
use Rattle.command_trace.specs.Channels.{issued_to}
use Rattle.command_trace.specs.declared.entry.Located.{Located}
use Rattle.ddr4_timing.specs.Lawful.{last_ref}
use Rattle.ddr4_timing.specs.TimingState.{WindowStands}
use Rattle.ddr4_timing.specs.declared.command.Stamped.{Stamped}
use Rattle.ddr4_timing.specs.declared.timing.Timing.{Timing}
use Rattle.trace_statistics.specs.declared.margins.ChannelMargins.{ChannelMargins}
use Rattle.trace_statistics.specs.declared.margins.RankMargins.{RankMargins}
use Rattle.trace_statistics.specs.Margins.{AreMarginsOf, lesser}

pub record MarginsStand (t : Timing) (rank : ℕ) (list : List Stamped) (r : RankMargins) : Type 0 where
  pub margins : AreMarginsOf t rank list r.margins
  pub deadline : r.deadline ≡ last_ref rank list + 9 * t.t_refi
  pub ends : WindowStands t rank list r.ends

-- the margins of each rank of a channel
abbrev pub RanksStand : Timing → ChannelMargins → List Stamped → Type 0
RanksStand t m list = (rank : ℕ) (none : RankMargins) → rank < 8 → MarginsStand t rank list (slice_index_or m.ranks rank none)

-- and of each channel
abbrev pub StandByAll : Timing → List ChannelMargins → List Located → Type 0
StandByAll t margins found =
    (channel : ℕ) (none : ChannelMargins) → channel < 8
    → RanksStand t (slice_index_or margins channel none) (plain_commands (issued_to channel found))

-- behind a REF
pub record IsRefreshed (t : Timing) (clock : ℕ) (old new : RankMargins) : Type 0 where
  pub longest : new.margins.longest ≡ max old.margins.longest (clock - old.margins.last)
  pub refreshes : new.margins.refreshes ≡ min (old.margins.refreshes + 1) (2 ^ 64 - 1)
  pub last : new.margins.last ≡ clock
  pub deadline : new.deadline ≡ clock + 9 * t.t_refi
  pub refresh : new.margins.refresh ≡ old.margins.refresh
  pub window : new.margins.window ≡ old.margins.window
  pub ends : new.ends ≡ old.ends

-- behind an ACT
pub record IsActivated (t : Timing) (clock : ℕ) (old new : RankMargins) : Type 0 where
  pub window : new.margins.window ≡ (if old.ends.fourth == 0 then old.margins.window else lesser old.margins.window (Some (clock - old.ends.fourth)))
  pub fourth : new.ends.fourth ≡ old.ends.third
  pub third : new.ends.third ≡ old.ends.second
  pub second : new.ends.second ≡ old.ends.last
  pub last : new.ends.last ≡ clock + t.t_faw
  pub longest : new.margins.longest ≡ old.margins.longest
  pub refreshes : new.margins.refreshes ≡ old.margins.refreshes
  pub last_refresh : new.margins.last ≡ old.margins.last
  pub refresh : new.margins.refresh ≡ old.margins.refresh
  pub deadline : new.deadline ≡ old.deadline
