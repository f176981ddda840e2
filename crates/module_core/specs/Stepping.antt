-- A step of a save on mains.
use Rattle.std.specs.Prelude.{◌≡◌, ℕ, List, [], ◌∷◌, Option, Some}
use Rattle.save_device.specs.Calls.{MakesCalls}
use Rattle.save_device.specs.Device.{DeviceState}
use Rattle.slot_store.specs.Runs.{plan_of, next_of}
use Rattle.slot_store.specs.declared.saving.SaveRun.{SaveRun}
use Rattle.channel_port.specs.Shape.{Shape}
use Rattle.channel_port.specs.declared.port.ChannelPort.{Ghosts}
use Rattle.nv_machine.specs.declared.events.StepReply.{StepReply}
use Rattle.nv_machine.specs.State.{RunningSave, Machine}
use Rattle.nv_machine.specs.Machine.{MadeStep, step_call, is_made}
use Rattle.module_core.specs.declared.front.Front.{Front}
use Rattle.module_core.specs.declared.module.Module.{Module}
use Rattle.module_core.specs.Fronts.{FrontMatches, setup_in}
use Rattle.module_saves.specs.Saves.{IsReadyFor, ReachesStore}
use Rattle.module_core.specs.Stands.{Matches, lines_of_module, setup_of}

-- One call of the device was made, that of the save's coming step.
abbrev pub CallsOnce : Option SaveRun → StepReply → DeviceState → DeviceState → Type 0
CallsOnce saving reply before after =
    (run : SaveRun) → saving ≡ Some run → MakesCalls (step_call (plan_of run).closed (next_of run) ∷ []) (is_made reply) before.calls after.calls

-- The machine made this step of its save, and the front and the device stand for the one after it.
pub record FrontMakesStep (shape : Shape) (m : Machine) (save : RunningSave) (reply : StepReply) (old : Front) (before : DeviceState) (new : Front) (after : DeviceState) : Type 0 where
  pub later : Machine
  pub step : MadeStep (setup_in shape old) save reply m later
  pub matches : FrontMatches new later
  pub reaches : ReachesStore shape.lines m.store later.store before new.saves after

-- whichever machine the front stood for, where its save was ready for the coming step
abbrev pub FrontMakesReadyStep : Shape → List ℕ → StepReply → Front → DeviceState → Front → DeviceState → Type 0
FrontMakesReadyStep shape page reply old before new after =
    (m : Machine) (save : RunningSave) → IsReadyFor shape.lines m.store save old.saves page before → FrontMatches old m
    → FrontMakesStep shape m save reply old before new after

module _ {K : Type 0} (L : Ghosts K) where
  -- The machine made this step of its save, and the module and the device stand for the one after it.
  pub record ModuleMakesStep (m : Machine) (save : RunningSave) (reply : StepReply) (old : Module K L) (before : DeviceState) (new : Module K L) (after : DeviceState) : Type 0 where
    pub later : Machine
    pub step : MadeStep (setup_of L old) save reply m later
    pub matches : Matches L new later
    pub reaches : ReachesStore (lines_of_module L old) m.store later.store before new.front.saves after

  -- whichever machine the module stood for, where its save was ready for the coming step
  abbrev pub MakesReadyStep : List ℕ → StepReply → Module K L → DeviceState → Module K L → DeviceState → Type 0
  MakesReadyStep page reply old before new after =
      (m : Machine) (save : RunningSave) → IsReadyFor (lines_of_module L old) m.store save old.front.saves page before → Matches L old m
      → ModuleMakesStep m save reply old before new after
