-- What a host's write at a desk comes to, with the part of its line's channel.
use Rattle.std.specs.Prelude.{◌≡◌, ℕ, ◌+◌, ◌<◌, ◌++◌, [], ◌∷◌, Result, Ok, Err}
use Rattle.line_memory.specs.declared.Write.{Write}
use Rattle.save_device.specs.declared.device.SaveDevice.{Ghosts as DeviceGhosts}
use Rattle.energy_budget.specs.declared.energy.Energy.{Ghosts as GaugeGhosts}
use Rattle.arm_state.specs.declared.refusal.WriteRefusal.{WriteRefusal}
use Rattle.channel_port.specs.declared.port.ChannelPort.{Ghosts}
use Rattle.channel_locks.specs.declared.parts_name.PartsName.{Ghosts as PartsGhosts}
use Rattle.nv_machine.specs.declared.events.Event.TheVariants as events
use Rattle.nv_machine.specs.declared.events.Reply.TheVariants as replies
use Rattle.board_hosts.specs.declared.board_name.BoardName.{Ghosts as BoardGhosts}
use Rattle.board_hosts.specs.declared.host.Receipt.{Receipt}
use Rattle.board_hosts.specs.Client.{Client}
use Rattle.board_hosts.specs.Marks.{told_at}
use Rattle.board_desk.specs.declared.desk.Desk.{Desk}
use Rattle.board_desk.specs.Answering.{DeskAnswers}
use Rattle.board_desk.specs.Views.{desk_of}

module _ {K D E B : Type 0} (L : Ghosts K) (M : DeviceGhosts D) (N : GaugeGhosts E) (O : BoardGhosts B) (P : PartsGhosts B) where
  -- The receipt of an accepted write has its number, its line and its data. It is one more of the host's, and of the record.
  pub record IsReceiptedAtDesk (write : Write) (receipt : Receipt) (host told : Client) (old new : Desk K D E B L M N O P) : Type 0 where
    pub number : receipt.number ≡ old.split.front.accepted
    pub line : receipt.line ≡ write.line
    pub stored : receipt.«data» ≡ write.«data»
    pub seen : receipt.number < told.accepted
    pub one : told.writes ≡ host.writes + 1
    pub adds : new.history.writes ≡ old.history.writes ++ write ∷ []

  -- A refused write counts nowhere.
  pub record IsRefusedAtDesk (host told : Client) (old new : Desk K D E B L M N O P) : Type 0 where
    pub none : told.writes ≡ host.writes
    pub stays : new.history.writes ≡ old.history.writes

  -- Behind its channel's own events a write is one event.
  abbrev pub HostWritesAtDesk : ℕ → Write → Result Receipt WriteRefusal → Client → Client → Desk K D E B L M N O P → Desk K D E B L M N O P → Type 0
  HostWritesAtDesk channel write (Ok receipt) host told old new =
      DeskAnswers P channel (events.Write write) (replies.Write (Ok (told_at receipt.number new.split.front.persisted))) (desk_of L M N O P old) (desk_of L M N O P new)
      × IsReceiptedAtDesk write receipt host told old new
  HostWritesAtDesk channel write (Err refusal) host told old new =
      DeskAnswers P channel (events.Write write) (replies.Write (Err refusal)) (desk_of L M N O P old) (desk_of L M N O P new)
      × IsRefusedAtDesk host told old new
