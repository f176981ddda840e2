-- A loss of mains, whose channels are drained in some order.
use Rattle.std.specs.Prelude.{◌≡◌, ℕ, ◌≤◌, true, false, OnOk}
use Rattle.arm_state.specs.Modes.{is_backed}
use Rattle.arm_state.specs.declared.loss.Loss.{Loss}
use Rattle.energy_budget.specs.declared.costs.CostNumbers.{CostNumbers}
use Rattle.energy_budget.specs.declared.energy.GaugeCall.TheVariants.{Tick}
use Rattle.energy_budget.specs.Gauge.{Gauge, ReadsLevel}
use Rattle.save_device.specs.Device.{DeviceState}
use Rattle.channel_port.specs.declared.port.ChannelPort.{Ghosts}
use Rattle.channel_port.specs.Draining.{DrainOrder, Paid}
use Rattle.channel_set.specs.Draining.{cost_of_drains, paid_for_drains}
use Rattle.channel_port.specs.declared.stage.Stage.TheVariants.{OnBackup}
use Rattle.channel_set.specs.Set.{AreAt, view_of}
use Rattle.nv_machine.specs.Losses.{LoseStep}
use Rattle.nv_machine.specs.State.{Machine}
use Rattle.nv_machine.specs.declared.events.Event.TheVariants as events
use Rattle.nv_machine.specs.declared.events.Reply.TheVariants as replies
use Rattle.module_core.specs.declared.module.Module.{Module}
use Rattle.module_core.specs.Drained.{HasDrained}
use Rattle.module_core.specs.Covering.{IsCovered}
use Rattle.module_core.specs.HonestCalls.{SavesWhereHonest}
use Rattle.module_saves.specs.Saves.{BeginsSave}
use Rattle.module_core.specs.Stands.{Assembly, EndsMains, HappensAt, ModuleStands, assembly, lines_of_module, point_of, setup_of, world_of}

module _ {K : Type 0} (L : Ghosts K) where
  -- Whichever machine the module and its device stood for, they stand for one after a loss in this order.
  abbrev pub LosesBy : DrainOrder → Loss → Assembly L → Assembly L → Type 0
  LosesBy order lost old new =
      (m : Machine) → ModuleStands L old.it old.device m
      → (n : Machine) × ModuleStands L new.it new.device n × LoseStep order (setup_of L old.it) lost (world_of L old m) (world_of L new n)

  -- the same, and what is said of the event that it answers
  pub record AnswersLoss (order : DrainOrder) (lost : Loss) (old new : Assembly L) (m : Machine) : Type 0 where
    pub answers : (n : Machine) × ModuleStands L new.it new.device n × HappensAt L (setup_of L old.it) events.Lose (replies.Lose lost) (point_of L old m) (point_of L new n)
    pub loses : (n : Machine) × ModuleStands L new.it new.device n × LoseStep order (setup_of L old.it) lost (world_of L old m) (world_of L new n)

  -- all that is said of a loss
  pub record IsLoss (order : DrainOrder) (lost : Loss) (old new : Assembly L) : Type 0 where
    pub each : (m : Machine) → ModuleStands L old.it old.device m → AnswersLoss order lost old new m
    pub covered : IsCovered L lost old.it.channels
    pub honest : SavesWhereHonest L lost old new
    pub setup : setup_of L new.it ≡ setup_of L old.it

  -- where no save is begun the device isn't asked
  abbrev pub LosesAlone : Loss → Module K L → Gauge → Module K L → Gauge → Type 0
  LosesAlone lost old before new later = (order : DrainOrder) (device : DeviceState) → IsLoss order lost (assembly old device before) (assembly new device later)

  -- Mains were lost while the module was backed. The gauge was read once, and a save of all accepted writes begun.
  pub record BeginsLoss (old new : Assembly L) : Type 0 where
    pub backed : is_backed old.it.front.mode ≡ true
    pub reading : ℕ
    pub reads : ReadsLevel Tick old.gauge reading new.gauge
    pub ends : EndsMains L reading old.it new.it
    pub backup : AreAt L OnBackup new.it.channels
    pub begins : BeginsSave old.it.front.saves old.it.front.accepted false (lines_of_module L old.it) new.it.front.saves
    pub cost : (numbers : CostNumbers) → cost_of_drains L new.it.channels numbers ≡ cost_of_drains L old.it.channels numbers
    pub device : new.device ≡ old.device

  -- what was paid for the drains is no less than what they cost
  abbrev pub CoversDrains : Paid → Assembly L → Type 0
  CoversDrains drained at = OnOk drained (cost_of_drains L at.it.channels at.it.channels.costs.numbers ≤ paid_for_drains (view_of L at.it.channels))

  -- A loss that was begun comes to this behind the drains of its channels.
  abbrev pub ConcludesLoss : Paid → Loss → Assembly L → Assembly L → Type 0
  ConcludesLoss drained lost mid new =
      (order : DrainOrder) (old begun : Assembly L) → BeginsLoss old begun → HasDrained order drained begun mid → CoversDrains drained begun → IsLoss order lost old new
