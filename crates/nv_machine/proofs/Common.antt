-- The words that most proofs of this crate cite, passed on from one place.
pub use Rattle.std.proofs.Common.{All, Bool, List, [], ap, append_assoc, arith, false, inl, inr, length, refl, subst, suc, sym, take, true, zero, ℕ, ⊎_elim, ◌++◌, ◌+◌, ◌-◌, ◌<◌, ◌∙◌, ◌∷◌, ◌≡◌, ◌≢◌, ◌≤◌}
pub use Rattle.std.specs.Prelude.{Err, None, Ok, Option, Some, if◌then◌else◌, is_some, slice_get, sum}
pub use Rattle.std.proofs.lemmas.List.{append-nil, length-append, take-append-le}
pub use Rattle.std.proofs.lemmas.List.Elements.{All-cons, All-nil}
pub use Rattle.std.proofs.lemmas.Option.{slice_get_within}
pub use Rattle.std.specs.Option.{ForSome}
pub use Rattle.line_memory.specs.Memory.{after}
pub use Rattle.line_memory.specs.declared.Write.{Write}
pub use Rattle.save_image.specs.Header.{arm_byte}
pub use Rattle.save_image.specs.Image.{Image}
pub use Rattle.save_device.proofs.CallLists.{faults_more}
pub use Rattle.save_device.specs.Device.{DeviceState}
pub use Rattle.slot_store.specs.Outcomes.{Found, Outcome}
pub use Rattle.slot_store.specs.Steps.{step_after}
pub use Rattle.slot_store.specs.declared.plan.Step.{Step}
pub use Rattle.slot_store.specs.declared.slots.Slot.{Slot}
pub use Rattle.arm_state.specs.Modes.{has_ended, is_armed, is_backed, is_disarming, reads_gauge}
pub use Rattle.arm_state.specs.Moves.{mode_after}
pub use Rattle.arm_state.specs.Refusals.{save_refusal}
pub use Rattle.arm_state.specs.declared.loss.Loss.{Loss}
pub use Rattle.arm_state.specs.declared.mode.Mode.{Mode}
pub use Rattle.arm_state.specs.declared.moves.Move.{Move}
pub use Rattle.energy_budget.proofs.Rising.{backing_level-ticks, need_backs}
pub use Rattle.energy_budget.specs.Actions.{cost_of}
unfoldable pub use Rattle.energy_budget.specs.Actions.{total_cost}
pub use Rattle.energy_budget.specs.declared.energy.GaugeCall.{GaugeCall}
pub use Rattle.energy_budget.specs.Gauge.{Gauge, IsHonestThrough, ReadsLevel}
unfoldable pub use Rattle.energy_budget.specs.Sums.{backing_level}
pub use Rattle.energy_budget.specs.declared.action.Action.{Action}
pub use Rattle.energy_budget.specs.declared.costs.Costs.{Costs}
pub use Rattle.channel_port.specs.Draining.{DrainOrder, pending_each}
pub use Rattle.channel_port.specs.Waits.{Waits}
pub use Rattle.nv_machine.specs.Guard.{Guards, HasCause, IsGood, IsPrefix, is_broken_off, would_lose_acknowledged}
unfoldable pub use Rattle.nv_machine.specs.Guard.{IsGuarded}
pub use Rattle.nv_machine.specs.Headline.{IsBacked, IsHonest, Recovers, RecoversAfterwards, Run, SavesAllWritten, StaysBacked, marks, ticks_left}
pub use Rattle.nv_machine.specs.Honesty.{IsBackedAt}
pub use Rattle.nv_machine.specs.Lives.{AreChained, IsLived, Lived}
pub use Rattle.nv_machine.specs.Losses.{EndsDark, EndsInFault, LoseStep}
pub use Rattle.nv_machine.specs.Machine.{MachineStep, WriteStep}
pub use Rattle.nv_machine.specs.Moves.{advanced, armed, begun, disarming, finished, persisted_at_end, read_as, step_failed, stepped, written}
pub use Rattle.nv_machine.specs.Refusals.{is_low, lacks_energy, need_for, saves_of}
pub use Rattle.nv_machine.specs.Rising.{added}
pub use Rattle.nv_machine.specs.State.{Machine, RunningSave, Setup, Store, World, all_of, base_of_life, made_of, newest_of, pending_of, start_of_life}
pub use Rattle.nv_machine.specs.Survival.{told_mark}
pub use Rattle.nv_machine.specs.declared.events.Accepted.{Accepted}
pub use Rattle.nv_machine.specs.declared.events.Event.{Event}
pub use Rattle.nv_machine.specs.declared.events.Reply.{Reply}
