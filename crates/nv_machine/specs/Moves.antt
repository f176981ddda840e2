-- The moves of the machine: what becomes of its state.
use Rattle.std.specs.Prelude.{ℕ, ◌+◌, zero, suc, Bool, true, false, [], ◌∷◌, ◌++◌, length, nat_lt, Some, None, if◌then◌else◌}
use Rattle.line_memory.specs.declared.Write.{Write}
use Rattle.save_image.specs.Image.{Image}
use Rattle.slot_store.specs.declared.plan.Step.{Step}
use Rattle.slot_store.specs.declared.plan.Step.TheVariants.{Close, SyncClosed, Open}
use Rattle.slot_store.specs.Slots.{other}
use Rattle.slot_store.specs.Steps.{step_after}
use Rattle.slot_store.specs.Rest.{only}
use Rattle.arm_state.specs.declared.mode.Mode.{Mode}
use Rattle.arm_state.specs.declared.mode.Mode.TheVariants as modes
use Rattle.arm_state.specs.declared.moves.Move.TheVariants.{EndSave}
use Rattle.arm_state.specs.Modes.{is_armed, repeats_in}
use Rattle.arm_state.specs.Moves.{mode_after}
use Rattle.arm_state.specs.declared.loss.Loss.TheVariants as loss
use Rattle.nv_machine.specs.State.{Setup, Life, RunningSave, Store, Machine, start_of_life, all_of, newest_of, made_of, begun_save}
use Rattle.nv_machine.specs.Refusals.{is_low}

-- a save of all accepted writes is begun, in place of one that runs; its image is armed where the machine is
abbrev pub begun : Machine → Machine
begun m = record m { store = record m.store { saving = Some (begun_save (made_of (is_armed m.mode) m)) } }

-- writes are refused until a save of all accepted ones is done
abbrev pub disarming : Machine → Machine
disarming m = begun (record m { mode = modes.Disarming })

-- the gauge has shown this
abbrev pub read_as : ℕ → Machine → Machine
read_as reading m = record m { reading = reading }

-- what a reading on mains leads to
abbrev pub sensed : Setup → Machine → Machine
sensed setup m = if is_low setup m then disarming m else m

-- the life after a write, which is persistent at once while armed
abbrev pub written : Mode → Life → Write → Life
written mode life write = record life {
  writes = life.writes ++ write ∷ [];
  persisted = if is_armed mode then start_of_life life + length life.writes + 1 else life.persisted;
}

-- all accepted writes are persistent, and the newest image is armed
abbrev pub armed : Machine → Machine
armed m = record m {
  mode = modes.Armed;
  life = record m.life { persisted = all_of m };
  store = record m.store { maybe = only m.store.maybe.slot (record (newest_of m) { arm = 0x5A }) };
}

-- the arm byte of the newest image may be any
abbrev pub arm_failed : Machine → Machine
arm_failed m = record m { store = record m.store { maybe = record m.store.maybe { any_arm = true }; unsettled = true } }

-- the store after a step of a save of this image went well: from the settled close on the newest image alone may be found,
-- and from the opening of the gate on the new one too
abbrev pub stepped : Store → Image → Step → Store
stepped s made SyncClosed = record s { maybe = record s.maybe { saved = None }; closed = true }
stepped s made Open = record s { maybe = record s.maybe { saved = Some made }; closed = false }
stepped s made step = s

-- the same, after its step failed: the save has ended
abbrev pub step_failed : Store → Image → Step → Store
step_failed s made Open = record s { maybe = record s.maybe { saved = Some made }; closed = false; unsettled = true; saving = None }
step_failed s made step = record s { unsettled = true; saving = None }

-- the store where a closing save was broken off before this step, which was tried and failed or wasn't
abbrev pub broken_off : Store → Image → Step → Bool → Store
broken_off s made step true = step_failed s made step
broken_off s made step false = record s { saving = None }

-- the store after its step failed and is to be made again: the save goes on, and from the first try to open the gate the new
-- image may be found too
abbrev pub torn : Store → Image → Step → Store
torn s made Open = record s { maybe = record s.maybe { saved = Some made }; closed = false }
torn s made step = s

abbrev pub repeated : RunningSave → Store → Store
repeated save s = record s { saving = Some (record save { repeats = save.repeats + 1 }) }

-- whether the save may make a step again that failed
abbrev pub may_repeat : Setup → Mode → RunningSave → Bool
may_repeat setup mode save = nat_lt save.repeats (repeats_in mode setup.shape.costs.retries)

-- the save has ended well
abbrev pub saved_in : Store → Image → Store
saved_in s made = record { maybe = only (other s.maybe.slot) made; closed = false; unsettled = false; saving = None }

abbrev pub advanced : ℕ → RunningSave → Store → Store
advanced lines save s = record s { saving = Some (record save { next = step_after lines save.next }) }

-- how many writes are persistent after a save's end
abbrev pub persisted_at_end : Mode → ℕ → ℕ → ℕ
persisted_at_end mode persisted count = if is_armed mode then persisted else count

abbrev pub finished : RunningSave → Machine → Machine
finished save m = record m {
  mode = mode_after EndSave m.mode;
  life = record m.life { persisted = persisted_at_end m.mode m.life.persisted save.made.count };
  store = saved_in m.store save.made;
}

-- mains were lost while the machine was disarmed: a save that ran is given up, and all reads are lost
abbrev pub closed_unsaved : Machine → Machine
closed_unsaved m = record m {
  mode = modes.Closing;
  lost = Some loss.Unsaved;
  waits = record m.waits { reads = [] };
  store = record m.store { saving = None };
}

-- how far a save has come: the coming step, and the store
pub record SaveProgress : Type 0 where
  pub next : Step
  pub store : Store

-- after the first steps of a save, so many of them
abbrev pub after_steps : ℕ → Store → Image → ℕ → SaveProgress
after_steps lines s made zero = record { next = Close; store = s }
after_steps lines s made (suc n) =
    let before = after_steps lines s made n in
    record { next = step_after lines before.next; store = stepped before.store made before.next }
