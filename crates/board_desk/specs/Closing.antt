-- The module that lies behind the locks of a board.
use Rattle.std.specs.Prelude.{◌≡◌}
use Rattle.save_device.specs.declared.device.SaveDevice.{Ghosts as DeviceGhosts}
use Rattle.energy_budget.specs.declared.energy.Energy.{Ghosts as GaugeGhosts}
use Rattle.channel_port.specs.declared.port.ChannelPort.{Ghosts}
use Rattle.channel_locks.specs.declared.parts_name.PartsName.{Ghosts as PartsGhosts}
use Rattle.channel_locks.specs.declared.unlocked.UnlockedChannels.{UnlockedChannels}
use Rattle.channel_locks.specs.Unlocked.{parts_of, ports_in}
use Rattle.board_hosts.specs.declared.board_name.BoardName.{Ghosts as BoardGhosts}
use Rattle.board_hosts.specs.declared.recorded_module.RecordedModule.{RecordedModule}
use Rattle.board_desk.specs.declared.desk.Desk.{Desk}

module _ {K D E B : Type 0} (L : Ghosts K) (M : DeviceGhosts D) (N : GaugeGhosts E) (O : BoardGhosts B) (P : PartsGhosts B) where
  -- A desk and the channels have this module with its record: the desk all but the ports, and each channel its own port.
  pub record HaveModule (W : Ghosts K) (desk : Desk K D E B L M N O P) (channels : UnlockedChannels K B L P) (recorded : RecordedModule K D E W) : Type 0 where
    pub front : recorded.running.front ≡ desk.split.front
    pub terms : recorded.running.channels.terms ≡ desk.terms
    pub costs : recorded.running.channels.costs ≡ desk.split.costs
    pub ports : recorded.running.channels.ports.items ≡ ports_in L (parts_of L P channels)
    pub device : recorded.device ≡ desk.device
    pub energy : recorded.energy ≡ desk.energy
    pub history : recorded.history ≡ desk.history
