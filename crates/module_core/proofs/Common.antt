-- The words that most proofs of this crate cite, passed on from one place.
pub use Rattle.std.proofs.Common.{[], ℕ, ◌++◌, ◌+◌, ◌<◌, ◌∙◌, ◌∷◌, ◌≡◌, ◌≢◌, ◌≤◌, ◌⊎◌, Bool, List, ap, arith, drop, false, inl, inr, length, refl, rules, subst, suc, sym, take, true}
pub use Rattle.std.proofs.lemmas.List.{append-nil, length-append}
pub use Rattle.std.specs.Option.{ForSome, option_map}
pub use Rattle.std.specs.Prelude.{if◌then◌else◌, Err, None, Ok, Option, Result, Some}
pub use Rattle.arm_state.specs.Modes.{has_ended, is_armed, is_backed}
pub use Rattle.arm_state.specs.declared.mode.Mode.{Mode}
pub use Rattle.channel_port.specs.Carried.{NoneBelow}
pub use Rattle.channel_port.specs.Shape.{Shape}
pub use Rattle.channel_port.specs.Waits.{Waits}
pub use Rattle.channel_port.specs.declared.port.ChannelPort.{Ghosts}
pub use Rattle.channel_port.specs.declared.waiting.Waiting.{Waiting}
pub use Rattle.channel_set.specs.Carrying.{WaitsFrom}
pub use Rattle.channel_set.specs.Set.{ChannelsView, shape_of, view_of}
pub use Rattle.energy_budget.specs.Gauge.{Gauge, ReadsLevel}
pub use Rattle.energy_budget.specs.declared.energy.GaugeCall.{GaugeCall}
pub use Rattle.energy_budget.specs.declared.action.Action.{Action}
pub use Rattle.energy_budget.specs.declared.costs.Costs.{Costs}
pub use Rattle.energy_budget.specs.declared.energy.Dark.{Dark}
pub use Rattle.line_memory.specs.Memory.{IsMemory, after}
pub use Rattle.module_saves.specs.Saves.{BeginsSave, ReachesStore}
pub use Rattle.module_saves.specs.Closing.{IsReadyToClose, saves_at}
pub use Rattle.module_saves.specs.Device.{Holds, HoldsWhile, IsResting}
pub use Rattle.module_saves.specs.Saving.{Knows, AreSameSave, after_step}
pub use Rattle.module_core.specs.Stands.{AnswersAll, Assembly, HappensAt, Matches, ModuleStands, assembly, lines_of_module, point_of, setup_of, world_of}
pub use Rattle.module_core.specs.declared.module.Module.{Module}
pub use Rattle.module_saves.specs.declared.saves.Saves.{Saves}
pub use Rattle.nv_machine.specs.Headline.{marks}
pub use Rattle.nv_machine.specs.Machine.{step_call}
pub use Rattle.nv_machine.specs.Moves.{after_steps, armed, begun, read_as, saved_in, step_failed, stepped}
pub use Rattle.nv_machine.specs.Refusals.{is_low, saves_of}
pub use Rattle.nv_machine.specs.State.{Machine, RunningSave, Setup, Store, World, all_of, base_of_life, begun_save, hold_at, hold_of, made_of, memory_of, start_of_life}
pub use Rattle.nv_machine.specs.declared.events.Event.{Event}
pub use Rattle.nv_machine.specs.declared.events.Reply.{Reply}
pub use Rattle.save_device.proofs.Moments.{started, weaker}
pub use Rattle.save_device.specs.Calls.{MakesCalls}
pub use Rattle.save_device.specs.Device.{DeviceState, LeavesOnly, StopsWithin, present}
pub use Rattle.save_device.specs.declared.calls.CallKind.{CallKind}
pub use Rattle.save_image.specs.Image.{Image}
pub use Rattle.slot_store.proofs.Stops.{more}
pub use Rattle.slot_store.specs.Changes.{GivesPage, closed_before}
pub use Rattle.slot_store.specs.Outcomes.{Outcome, restored}
pub use Rattle.slot_store.specs.Rest.{IsAmong, rearmed}
pub use Rattle.slot_store.specs.Runs.{next_of, plan_of}
pub use Rattle.slot_store.specs.Slots.{other}
pub use Rattle.slot_store.specs.Steps.{step_after}
pub use Rattle.slot_store.specs.declared.plan.Newest.{Newest}
pub use Rattle.slot_store.specs.declared.plan.Plan.{Plan}
pub use Rattle.slot_store.specs.declared.plan.Step.{Step}
pub use Rattle.slot_store.specs.declared.plan.Step.TheVariants.{Page, SyncOpen}
pub use Rattle.slot_store.specs.declared.saving.SaveRun.{SaveRun}
pub use Rattle.slot_store.specs.declared.slots.Slot.{Slot}
