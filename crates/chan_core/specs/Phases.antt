-- What a channel's phase says of its commands.
use Rattle.std.specs.Prelude.{◌≡◌, ◌≢◌, ℕ, ◌<◌, ◌↔◌, List, IsTrue}
use Rattle.ddr4_timing.specs.declared.command.Stamped.{Stamped}
use Rattle.ddr4_timing.specs.declared.timing.Checked.{Checked}
use Rattle.ddr4_timing.specs.Lawful.{is_asleep}
use Rattle.frfcfs.specs.Margin.{AreAsleep, KeepsMargin}
use Rattle.chan_core.specs.declared.phase.Phase.{Phase}
use Rattle.chan_core.specs.declared.phase.Phase.TheVariants.{Asleep, Running, Stepping}
use Rattle.chan_core.specs.State.{ChannelState}

-- Each rank that is awake still has the time for its next refresh, with the precharge that it needs.
abbrev pub IsInTime : ChannelState → Type 0
IsInTime s = KeepsMargin s.checked s.commands

-- no rank had its SRE
abbrev pub AreAwake : Checked → List Stamped → Type 0
AreAwake c list = (rank : ℕ) → rank < c.geometry.ranks → ¬ IsTrue (is_asleep rank list)

-- the phase is the one of sleep exactly where each rank had its SRE
abbrev pub TellsSleep : Phase → Checked → List Stamped → Type 0
TellsSleep phase c list = (phase ≡ Asleep) ↔ AreAsleep c list

pub record IsInPhase (s : ChannelState) : Type 0 where
  pub in_time : s.phase ≢ Stepping → IsInTime s
  pub awake : s.phase ≡ Running → AreAwake s.checked s.commands
  pub asleep : s.phase ≡ Asleep → AreAsleep s.checked s.commands
