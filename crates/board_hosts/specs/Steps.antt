-- One event at a module with its device and its gauge.
use Rattle.save_device.specs.declared.device.SaveDevice.{Ghosts as DeviceGhosts}
use Rattle.energy_budget.specs.declared.energy.Energy.{Ghosts as GaugeGhosts}
use Rattle.channel_port.specs.declared.port.ChannelPort.{Ghosts}
use Rattle.nv_machine.specs.declared.events.Event.{Event}
use Rattle.nv_machine.specs.declared.events.Reply.{Reply}
use Rattle.module_core.specs.Stands.{Answers}
use Rattle.board_hosts.specs.declared.recorded_module.RecordedModule.{RecordedModule}
use Rattle.board_hosts.specs.Lived.{assembly_of}

module _ {K D E : Type 0} (L : Ghosts K) (M : DeviceGhosts D) (N : GaugeGhosts E) where
  -- the event was answered by this reply
  abbrev pub StepsTo : Event → Reply → RecordedModule K D E L → RecordedModule K D E L → Type 0
  StepsTo event reply old new = Answers L event reply (assembly_of L M N old) (assembly_of L M N new)
