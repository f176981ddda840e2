-- A channel's banks, clock and last commands are those of its list of commands, which is as its phase says.
use Rattle.std.specs.Prelude.{◌≡◌, ◌<◌, ◌^◌}
use Rattle.bank_core.specs.Stands.{Stands}
use Rattle.chan_core.specs.declared.channel.Channel.TheInside.{Inside}
use Rattle.chan_core.specs.State.{clock_of, last_commands}
use Rattle.chan_core.specs.Phases.{IsInPhase}

pub record IsRunning (c : Inside) : Type 0 where
  pub stands : Stands c.banks c.memory.commands
  pub checked : c.banks.checked ≡ c.memory.checked
  pub clock : c.clock ≡ clock_of c.memory
  pub early : c.clock < 2 ^ 63
  pub recent : c.recent.items ≡ last_commands c.memory.commands
  pub capacity : c.recent.capacity ≡ 64
  pub phase : IsInPhase c.memory
