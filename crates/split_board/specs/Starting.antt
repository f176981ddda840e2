-- A module of which a board begins.
use Rattle.std.specs.Prelude.{◌≡◌, ◌+◌, List, Some}
use Rattle.channel_port.specs.declared.port.ChannelPort.{Ghosts}
use Rattle.save_device.specs.declared.device.SaveDevice.{Ghosts as DeviceGhosts}
use Rattle.energy_budget.specs.declared.energy.Energy.{Ghosts as GaugeGhosts}
use Rattle.channel_set.specs.declared.terms.PortTerms.{PortTerms}
use Rattle.channel_set.specs.Ports.{places_of}
use Rattle.channel_set.specs.Set.{shape_of}
use Rattle.channel_locks.specs.PortMakes.{PortMake}
use Rattle.channel_locks.specs.declared.parts_name.PartsName.{Ghosts as PartsGhosts}
use Rattle.channel_locks.specs.declared.unlocked.UnlockedChannels.{UnlockedChannels}
use Rattle.board_hosts.specs.Kept.{IsRecordKept}
use Rattle.board_hosts.specs.declared.board_name.BoardName.{Ghosts as BoardGhosts}
use Rattle.board_hosts.specs.declared.recorded_module.RecordedModule.{RecordedModule}
use Rattle.board_desk.specs.Closing.{HaveModule}
use Rattle.board_desk.specs.declared.desk.Desk.{Desk}

-- what ports with these terms have in common
abbrev pub make_with : {K : Type 0} → Ghosts K → PortTerms → List K → PortMake
make_with L terms ports = record {
  checked = Some terms.checked;
  lines = terms.lines;
  place_of = places_of L ports;
  depth = terms.depth;
  most_reads = terms.most_reads;
}

module _ {K D E B : Type 0} (L : Ghosts K) (M : DeviceGhosts D) (N : GaugeGhosts E) (O : BoardGhosts B) (P : PartsGhosts B) where
  -- The board's name is that of a module with its record, which has all writes of the life.
  pub record IsBoardOf (recorded : RecordedModule K D E L) : Type 0 where
    pub before : recorded.running.front.accepted ≡ recorded.running.front.terms.start + O.before
    pub channels : (shape_of L recorded.running.channels).channels ≡ O.channels
    pub ports : (shape_of L recorded.running.channels).channels ≡ P.ports
    pub made : make_with L recorded.running.channels.terms recorded.running.channels.ports.items ≡ P.make
    pub base : recorded.history.base ≡ P.base
    pub whole : recorded.history.start ≡ recorded.running.front.terms.start
    pub kept : IsRecordKept L M N recorded

  -- This module with its record lies behind the locks of a board, or lay there. Which values lie behind a lock no clause can name, so
  -- this says that there are some.
  pub record LiesBehindLocks (W : Ghosts K) (recorded : RecordedModule K D E W) : Type 0 where
    pub desk : Desk K D E B L M N O P
    pub channels : UnlockedChannels K B L P
    pub have : HaveModule L M N O P W desk channels recorded
