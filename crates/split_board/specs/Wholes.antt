-- What a call of a whole module at a board comes to.
use Rattle.std.specs.Prelude.{◌≡◌, ℕ, List, Option, Some, Result, Ok, Err}
use Rattle.arm_state.specs.declared.loss.Loss.{Loss}
use Rattle.line_memory.specs.History.{cut_at}
use Rattle.save_device.specs.declared.device.SaveDevice.{Ghosts as DeviceGhosts}
use Rattle.energy_budget.specs.declared.energy.Energy.{Ghosts as GaugeGhosts}
use Rattle.channel_port.specs.declared.port.ChannelPort.{Ghosts}
use Rattle.channel_locks.specs.declared.parts_name.PartsName.{Ghosts as PartsGhosts}
use Rattle.nv_machine.specs.State.{Machine}
use Rattle.board_hosts.specs.declared.board_name.BoardName.{Ghosts as BoardGhosts}
use Rattle.board_hosts.specs.declared.checking.Cut.{Cut}
use Rattle.board_hosts.specs.declared.checking.Stranger.{Stranger}
use Rattle.board_hosts.specs.declared.host.Receipt.{Receipt}
use Rattle.worker_turns.specs.declared.awaiting.Seen.{Seen}
use Rattle.board_hosts.specs.declared.saver.Saving.{Saving}
use Rattle.nv_machine.specs.declared.events.StepReply.TheVariants as step
use Rattle.board_hosts.specs.declared.saver.Saving.TheVariants.{Began, Stepped, Rested, Closed}
use Rattle.board_hosts.specs.Ending.{AreChecked, IsStranger}
use Rattle.board_hosts.specs.Savers.{turn_of, turn_taken, working_of}
use Rattle.worker_turns.specs.declared.Gate.{Ghosts as GateGhosts}
use Rattle.worker_turns.specs.declared.shift.Working.{Working}
use Rattle.board_desk.specs.declared.desk.Desk.{Desk}
use Rattle.board_desk.specs.Calling.{Course, Paused, save_begin_course, save_step_course}
use Rattle.board_desk.specs.Desk.{DeskStands}
use Rattle.board_desk.specs.Locking.{CallsWhole, LosesAtDesk}
use Rattle.board_desk.specs.Views.{desk_of}

-- how long a saver sleeps behind a turn in which it worked, in microseconds: three milliseconds behind the end of a save, whether that
-- went well or not, and one microsecond behind any other
abbrev pub sleep_behind : Saving → ℕ
sleep_behind (Stepped (step.Saved generation count)) = 3000
sleep_behind (Stepped step.Fault) = 3000
sleep_behind saving = 1

module _ {K D E B : Type 0} (L : Ghosts K) (M : DeviceGhosts D) (N : GaugeGhosts E) (O : BoardGhosts B) (P : PartsGhosts B) where
  -- with all locks held it was this to the life
  pub record LentWhole (course : Course) : Type 0 where
    pub before : Desk K D E B L M N O P
    pub after : Desk K D E B L M N O P
    pub calls : CallsWhole L M N O P course before after

  -- with all locks held mains were lost so
  pub record LentLoss {G : Type 0} (H : GateGhosts G) (gate : G) (lost : Loss) : Type 0 where
    pub before : Desk K D E B L M N O P
    pub after : Desk K D E B L M N O P
    pub loses : LosesAtDesk L M N O P H gate lost before after

  -- a save was begun or refused, a step of one was made, or nothing was done
  abbrev pub TakesSaverTurn : Saving → Desk K D E B L M N O P → Desk K D E B L M N O P → Type 0
  TakesSaverTurn (Began result) old new = CallsWhole L M N O P (save_begin_course result) old new
  TakesSaverTurn (Stepped reply) old new = CallsWhole L M N O P (save_step_course reply) old new
  TakesSaverTurn Rested old new = new ≡ old
  TakesSaverTurn Closed old new = new ≡ old

  -- A saver took the turn that is due by the desk, and by the desk alone where it rests.
  pub record SavesAtDesk (saving : Saving) (old new : Desk K D E B L M N O P) : Type 0 where
    pub turn : (m : Machine) → DeskStands P (desk_of L M N O P old) m → turn_taken saving ≡ turn_of m old.split.front.saved
    pub steps : TakesSaverTurn saving old new

  -- the same of what lies behind the board's lock
  pub record SavesLocked (saving : Saving) (old new : Option (Desk K D E B L M N O P)) : Type 0 where
    pub before : Desk K D E B L M N O P
    pub after : Desk K D E B L M N O P
    pub old_is : old ≡ Some before
    pub new_is : new ≡ Some after
    pub saves : SavesAtDesk saving before after

  -- with the board's lock held a saver took this turn
  pub record LentTurnOfSaver (saving : Saving) : Type 0 where
    pub before : Desk K D E B L M N O P
    pub after : Desk K D E B L M N O P
    pub saves : SavesAtDesk saving before after

  -- the same, by how it goes on
  abbrev pub WorksAsSaver : Working → Type 0
  WorksAsSaver done = (saving : Saving) × LentTurnOfSaver saving × (done ≡ working_of saving)

  -- Where there is no stranger among the receipts and answers they were checked, and then the stored writes that the newest image holds
  -- went into the record's memory; told is where the stored ones begin from then on. A stranger is named, and nothing has changed.
  abbrev pub CutsAtDesk : List Receipt → List Seen → Result Cut Stranger → Desk K D E B L M N O P → Desk K D E B L M N O P → Type 0
  CutsAtDesk receipts answers (Ok told) old new =
      AreChecked old.split.front.terms.start old.history receipts answers (record told { from = old.history.start })
      × (told.from ≡ new.history.start) × (new.history ≡ cut_at old.split.front.saved old.history) × CallsWhole L M N O P Paused old new
  CutsAtDesk receipts answers (Err stranger) old new = IsStranger old.split.front.terms.start old.history receipts answers stranger × (new ≡ old)

  -- the same of what lies behind the board's lock
  pub record CutsLocked (receipts : List Receipt) (answers : List Seen) (result : Result Cut Stranger) (old new : Option (Desk K D E B L M N O P)) : Type 0 where
    pub before : Desk K D E B L M N O P
    pub after : Desk K D E B L M N O P
    pub old_is : old ≡ Some before
    pub new_is : new ≡ Some after
    pub cuts : CutsAtDesk receipts answers result before after

  -- with all locks held receipts and answers were checked and it was cut, or a stranger was named
  pub record LentForCut (receipts : List Receipt) (answers : List Seen) (result : Result Cut Stranger) : Type 0 where
    pub before : Desk K D E B L M N O P
    pub after : Desk K D E B L M N O P
    pub cuts : CutsAtDesk receipts answers result before after
