-- The words that most proofs of this crate cite, passed on from one place.
pub use Rattle.std.proofs.Common.{[], ℕ, ◌++◌, ◌+◌, ◌-◌, ◌<◌, ◌∙◌, ◌∷◌, ◌≡◌, ◌≢◌, ◌≤◌, ◌⊎◌, Bool, List, ap, arith, drop, false, inl, inr, refl, rules, subst, suc, sym, true}
pub use Rattle.std.proofs.lemmas.List.{append-nil}
pub use Rattle.std.specs.Option.{ForSome, option_map}
pub use Rattle.std.specs.Prelude.{if◌then◌else◌, Err, None, Ok, Option, Result, Some}
pub use Rattle.channel_port.specs.Shape.{Shape}
pub use Rattle.channel_port.specs.declared.port.ChannelPort.{Ghosts}
pub use Rattle.channel_set.specs.Set.{ChannelsView, shape_of, view_of}
pub use Rattle.energy_budget.specs.Actions.{cost_of, save_actions}
pub use Rattle.energy_budget.specs.Gauge.{Gauge}
pub use Rattle.energy_budget.specs.declared.action.Action.{Action}
pub use Rattle.energy_budget.specs.declared.costs.Costs.{Costs}
pub use Rattle.line_memory.specs.Memory.{IsMemory}
pub use Rattle.module_saves.specs.Saves.{BeginsSave, ReachesStore}
pub use Rattle.module_saves.specs.Closing.{IsReadyToClose, action_of, saves_at}
pub use Rattle.module_saves.specs.Device.{HoldsWhile, IsResting, IsSaving}
pub use Rattle.module_saves.specs.Saving.{Knows, AreSameSave, after_step}
pub use Rattle.module_saves.specs.declared.saves.Saves.{Saves}
pub use Rattle.nv_machine.specs.Machine.{step_call}
pub use Rattle.nv_machine.specs.Moves.{after_steps, armed, saved_in, step_failed, stepped}
pub use Rattle.nv_machine.specs.State.{RunningSave, Store, begun_save, hold_at}
pub use Rattle.save_device.proofs.Moments.{weaker}
pub use Rattle.save_device.specs.Calls.{MakesCalls}
pub use Rattle.save_device.specs.Device.{DeviceState, LeavesOnly, present}
pub use Rattle.save_device.specs.declared.calls.CallKind.{CallKind}
pub use Rattle.save_device.specs.declared.calls.CallKind.TheVariants.{Write}
pub use Rattle.save_image.specs.Image.{Image}
pub use Rattle.slot_store.proofs.Stops.{more}
pub use Rattle.slot_store.specs.Changes.{GivesPage, closed_before}
pub use Rattle.slot_store.specs.Outcomes.{Outcome, restored}
pub use Rattle.slot_store.specs.Rest.{IsAmong, rearmed}
pub use Rattle.slot_store.specs.Runs.{next_of, plan_of, tried_of}
pub use Rattle.slot_store.specs.Saving.{SavingAt}
pub use Rattle.slot_store.specs.Slots.{other}
pub use Rattle.slot_store.specs.Steps.{step_after}
pub use Rattle.slot_store.specs.declared.plan.Newest.{Newest}
pub use Rattle.slot_store.specs.declared.plan.Plan.{Plan}
pub use Rattle.slot_store.specs.declared.plan.Step.{Step}
pub use Rattle.slot_store.specs.declared.plan.Step.TheVariants.{Close, Done, Page, SyncClosed, SyncOpen}
pub use Rattle.slot_store.specs.declared.saving.SaveRun.{SaveRun}
pub use Rattle.slot_store.specs.declared.slots.Slot.{Slot}
