-- What is kept beside a module.
use Rattle.std.specs.Prelude.{◌≡◌, ℕ, ◌+◌, ◌≤◌, []}
use Rattle.atomic_table.specs.Seated.{TableId}
use Rattle.board_hosts.specs.SeenMarks.{SeenMarks}
use Rattle.line_memory.specs.History.{Recorded, recorded}
use Rattle.save_image.specs.Image.{Image}
use Rattle.save_device.specs.declared.device.SaveDevice.{Ghosts as DeviceGhosts}
use Rattle.slot_store.specs.declared.head.Head.{Head}
use Rattle.energy_budget.specs.declared.energy.Energy.{Ghosts as GaugeGhosts}
use Rattle.channel_port.specs.declared.port.ChannelPort.{Ghosts}
use Rattle.nv_machine.specs.State.{Machine, base_of_life, start_of_life, stored_base, stored_writes}
use Rattle.module_core.specs.Opening.{opened_with}
use Rattle.module_core.specs.Stands.{ModuleStands, setup_of}
use Rattle.board_hosts.specs.declared.board_name.BoardName.{Ghosts as NameGhosts}
use Rattle.board_hosts.specs.declared.recorded_module.RecordedModule.{RecordedModule}
use Rattle.nv_machine.specs.Lives.{LivedUntil}
use Rattle.board_hosts.specs.Lived.{world_for}
use Rattle.board_hosts.specs.Marks.{marks_of}

-- the record of a whole life, as if none of its writes had been cut off
abbrev pub whole_record : Machine → ℕ → Recorded
whole_record m room = recorded (base_of_life m.life) (start_of_life m.life) m.life.writes room

module _ {K D E : Type 0} (L : Ghosts K) (M : DeviceGhosts D) where
  -- the module and its device stand for this machine, and what is stored of its life is recorded
  pub record StandsWith (it : RecordedModule K D E L) (m : Machine) : Type 0 where
    pub stands : ModuleStands L it.running (M.state it.device) m
    pub stored : it.history ≡ recorded (stored_base m) m.cut (stored_writes m) it.history.room

  -- A life has just begun with this image: module and device stand for a new machine, and its memory is recorded with no write.
  pub record HasJustBegun (it : RecordedModule K D E L) (found : Head) (image : Image) : Type 0 where
    pub stands : ModuleStands L it.running (M.state it.device) (opened_with found image)
    pub recorded_is : it.history ≡ recorded image.memory image.count [] it.history.room

  -- with some image
  abbrev pub IsOfNewLife : RecordedModule K D E L → Type 0
  IsOfNewLife it = ∥ ((found : Head) × (image : Image) × HasJustBegun it found image) ∥₁

  -- the record has room for as many writes as the module may store
  abbrev pub HasRoomForAll : RecordedModule K D E L → Type 0
  HasRoomForAll it = it.running.front.terms.trail ≤ it.history.room

module _ {K D E : Type 0} (L : Ghosts K) (M : DeviceGhosts D) (N : GaugeGhosts E) where
  -- What is true between two events: the record is that of some machine that the module and its device stand for, a life so far
  -- leads to this machine, and there is room.
  pub record IsRecordKept (it : RecordedModule K D E L) : Type 0 where
    pub stands : ∥ ((m : Machine) × StandsWith L M it m × LivedUntil (setup_of L it.running) (world_for L M N it m)) ∥₁
    pub room : HasRoomForAll L M it

module _ {K D E B : Type 0} (L : Ghosts K) (M : DeviceGhosts D) (N : GaugeGhosts E) (O : NameGhosts B) where
  -- What is true of a board that was put together: the words and the channels are those that the board's name says; the record is
  -- kept, with the life so far; the marks are the module's two numbers; and the hosts have written all that was accepted since the
  -- board was opened, so many.
  pub record IsBoardKept (it : RecordedModule K D E L) (words : TableId) (marks : SeenMarks) (written : ℕ) : Type 0 where
    pub board : words ≡ O.board
    pub channels : (setup_of L it.running).shape.channels ≡ O.channels
    pub recorded : IsRecordKept L M N it
    pub shown : marks ≡ marks_of L O.board it.running
    pub counted : it.running.front.accepted ≡ it.running.front.terms.start + O.before + written
