-- The drain of a port that was paid for.
use Rattle.std.specs.Prelude.{◌≡◌, ◌≤◌, [], length}
use Rattle.energy_budget.specs.declared.costs.Costs.{Costs}
use Rattle.energy_budget.specs.Actions.{drain_actions, total_cost}
use Rattle.energy_budget.specs.Costs.{AreReckonedFor}
use Rattle.channel_port.specs.declared.port.ChannelPort.{Ghosts}
use Rattle.channel_port.specs.declared.stage.Stage.TheVariants.{OnBackup}
use Rattle.channel_port.specs.Carried.{KeepsCarried}
use Rattle.channel_port.specs.Waits.{emptied}

module _ {K : Type 0} (L : Ghosts K) (costs : Costs) where
  -- it is on backup, no read is open, and these costs are reckoned for it
  pub record AwaitsPaidDrain (port : K) : Type 0 where
    pub backup : (L.view port).stage ≡ OnBackup
    pub lost : (L.view port).waits.reads ≡ []
    pub reckoned : AreReckonedFor (L.view port).checked costs

  -- it was drained, which cost no more than is paid for it
  pub record DrainsPaid (old new : K) : Type 0 where
    pub drained : new ≡ L.drained old
    pub dry : (L.view new).waits ≡ emptied (L.view old).waits
    pub covers : L.drain_cost old costs.numbers ≤ total_cost costs (drain_actions (length (L.view old).waits.writes))
    pub rest : L.view new ≡ record (L.view old) { waits = (L.view new).waits; stage = (L.view new).stage; stored = (L.view new).stored }
    pub keeps : KeepsCarried (L.carries old) (L.carries new)
