-- A desk, as definitions see it, and what stays of it.
use Rattle.std.specs.Prelude.{◌≡◌}
use Rattle.save_device.specs.declared.device.SaveDevice.{Ghosts as DeviceGhosts}
use Rattle.energy_budget.specs.declared.energy.Energy.{Ghosts as GaugeGhosts}
use Rattle.channel_port.specs.declared.port.ChannelPort.{Ghosts}
use Rattle.board_hosts.specs.declared.board_name.BoardName.{Ghosts as BoardGhosts}
use Rattle.channel_locks.specs.declared.parts_name.PartsName.{Ghosts as PartsGhosts}
use Rattle.board_desk.specs.declared.desk.Desk.{Desk}
use Rattle.board_desk.specs.Desk.{DeskView, desk_view}

module _ {K D E B : Type 0} (L : Ghosts K) (M : DeviceGhosts D) (N : GaugeGhosts E) (O : BoardGhosts B) (P : PartsGhosts B) where
  abbrev pub desk_of : Desk K D E B L M N O P → DeskView
  desk_of desk = desk_view desk.split desk.terms (M.state desk.device) (N.gauge desk.energy) desk.history desk.known.logs

  -- nothing has changed but which credits are out, and what is known of the channels
  pub record SameButCounts (old new : Desk K D E B L M N O P) : Type 0 where
    pub front : new.split.front ≡ old.split.front
    pub costs : new.split.costs ≡ old.split.costs
    pub terms : new.terms ≡ old.terms
    pub room : new.room ≡ old.room
    pub device : new.device ≡ old.device
    pub energy : new.energy ≡ old.energy
    pub history : new.history ≡ old.history
    pub marks : new.marks ≡ old.marks
    pub seat : new.seat ≡ old.seat
    pub tally : new.tally ≡ old.tally
    pub logs : new.logs ≡ old.logs

  -- the module is the same but for what channels lend, what they owe, and what is known of them
  pub record SameModule (old new : Desk K D E B L M N O P) : Type 0 where
    pub front : new.split.front ≡ old.split.front
    pub costs : new.split.costs ≡ old.split.costs
    pub terms : new.terms ≡ old.terms
    pub device : new.device ≡ old.device
    pub energy : new.energy ≡ old.energy
    pub history : new.history ≡ old.history

  -- nothing has changed but the ports that channels have lent
  pub record SameButLoans (old new : Desk K D E B L M N O P) : Type 0 where
    pub view : desk_of new ≡ desk_of old
    pub split : new.split ≡ old.split
    pub terms : new.terms ≡ old.terms
    pub device : new.device ≡ old.device
    pub energy : new.energy ≡ old.energy
    pub history : new.history ≡ old.history
    pub known : new.known ≡ old.known

  -- nothing has changed but the front's numbers, the record, the marks, and what is known of the channels
  pub record KeepsAround (old new : Desk K D E B L M N O P) : Type 0 where
    pub life : new.split.front.terms ≡ old.split.front.terms
    pub costs : new.split.costs ≡ old.split.costs
    pub terms : new.terms ≡ old.terms
    pub device : new.device ≡ old.device
    pub energy : new.energy ≡ old.energy
    pub marks : new.marks ≡ old.marks
    pub logs : new.logs ≡ old.logs
