-- The words that most proofs of this crate cite, passed on from one place.
pub use Rattle.std.proofs.Common.{[], ℕ, ◌*◌, ◌++◌, ◌+◌, ◌-◌, ◌/◌, ◌<◌, ◌∙◌, ◌∷◌, ◌≡◌, ◌≢◌, ◌≤◌, ◌⊎◌, Bool, Err, List, Ok, Result, ap, arith, drop, false, get_or, inl, inr, length, length-drop, length-take, refl, replicate, slice_index, subst, suc, sym, take, true, zero, ⊎_elim}
pub use Rattle.std.proofs.lemmas.Bool.Decides.{eqb_tells}
pub use Rattle.std.proofs.lemmas.Grind.{same_number_lists}
pub use Rattle.std.proofs.lemmas.List.{append-nil, get_or-drop, get_or-take}
pub use Rattle.std.specs.Prelude.{if◌then◌else◌, IsTrue, Some, nat_lt, slice_range}
pub use Rattle.line_memory.proofs.MemoryLaws.{zero_lines-IsMemory}
pub use Rattle.line_memory.specs.Memory.{IsMemory}
pub use Rattle.save_device.proofs.CallLists.{calls_on, first_fails, on_err}
pub use Rattle.save_device.proofs.Moments.{and_then, weaker, within_call}
pub use Rattle.save_device.proofs.ReadRuns.{reads_on}
pub use Rattle.save_device.proofs.Rows.{differs_within, holds-within}
pub use Rattle.save_device.specs.Calls.{MakesCalls}
pub use Rattle.save_device.specs.Changes.{Makes, OnlyReads, Put, Settle, Touches}
pub use Rattle.save_device.specs.Device.{DeviceState, IsSettled, LeavesOnly, MayLeave, Moment, present}
pub use Rattle.save_device.specs.Rows.{DiffersOnlyAt, IsInRange, overwritten}
pub use Rattle.save_device.specs.declared.calls.CallKind.TheVariants.{Sync, Write}
pub use Rattle.save_image.specs.Body.{lines_in}
pub use Rattle.save_image.specs.Header.{arm_byte, header}
pub use Rattle.save_image.specs.Image.{Image, header_in, image_bytes}
pub use Rattle.slot_store.specs.Changes.{GivesPage, change_of, closed_before, gate_of}
pub use Rattle.slot_store.specs.Finishing.{CallsFor, steps_to_come, step_on}
pub use Rattle.slot_store.specs.Outcomes.{Damaged, Found, Outcome, WrongSize, chosen, restored}
pub use Rattle.slot_store.specs.Rest.{Candidates, IsAmong, IsAtRest, IsAtRestOn, IsShut, only, rearmed}
pub use Rattle.slot_store.specs.Saving.{GateShut, IsKept, IsWritten, Leaves, SavingAt, SlotHas, image_of}
pub use Rattle.slot_store.specs.Slots.{Closed, Full, HasSize, SlotState, body_in, device_size, image_with, is_closed, other, page_in, slot_size, slot_state, start_of}
pub use Rattle.slot_store.specs.Steps.{calls_left, reach_of, step_after, steps_left}
pub use Rattle.slot_store.specs.Told.{is_fault, told}
pub use Rattle.slot_store.specs.declared.plan.Plan.{Plan}
pub use Rattle.slot_store.specs.declared.plan.Step.{Step}
pub use Rattle.slot_store.specs.declared.plan.Step.TheVariants.{Close, Done, Header, Open, Page, SyncBody, SyncClosed, SyncOpen}
pub use Rattle.slot_store.specs.declared.restoring.RestoreError.{RestoreError}
pub use Rattle.slot_store.specs.declared.slots.Slot.{Slot}
pub use Rattle.slot_store.specs.declared.slots.Slot.TheVariants.{First, Second}
pub use Rattle.slot_store.specs.declared.source.BrokenOff.{BrokenOff}
