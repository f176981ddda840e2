-- The words that most proofs of this crate cite, passed on from one place.
pub use Rattle.save_device.specs.Device.{DeviceState, IsSettled, LeavesOnly, MayLeave, StopsWithin, present}
pub use Rattle.slot_store.specs.declared.head.Head.{Head}
pub use Rattle.slot_store.specs.Outcomes.{Outcome, first_image, verdict_of}
unfoldable pub use Rattle.slot_store.specs.Outcomes.{restored}
unfoldable pub use Rattle.ddr4_timing.specs.Limits.{lines_of}
pub use Rattle.energy_budget.specs.Meter.{meter_gauge}
pub use Rattle.arm_state.specs.declared.refusal.ArmRefusal.{ArmRefusal}
pub use Rattle.channel_port.specs.declared.port.ChannelPort.{Ghosts}
pub use Rattle.nv_machine.specs.declared.events.Event.{Event}
pub use Rattle.nv_machine.specs.declared.events.Reply.{Reply}
pub use Rattle.nv_machine.specs.declared.events.StepReply.{StepReply}
pub use Rattle.nv_machine.specs.Machine.{CollectStep, ReadStep, SaveBeginStep, SaveStepStep, WorkStep}
pub use Rattle.nv_machine.specs.State.{Machine, RunningSave, Setup, World, all_of, hold_of, memory_after, memory_of, newest_of}
pub use Rattle.module_core.specs.declared.module.Module.{Module}
pub use Rattle.module_core.specs.Stands.{Answers, AnswersAlone, Assembly, HappensAt, HasDevice, ModuleStands, RunAt, assembly, lines_of_module, point_of, setup_of, world_of}
pub use Rattle.module_core.proofs.CallsInTurn.{answered_none, life_begins, life_charged, life_on, none_answered_on, runs_on}
pub use Rattle.nv_profile.specs.declared.profile.Profile.{Profile}
pub use Rattle.nv_session.specs.Coming.{Comes, ComesAlone, ComesTo, IsOneEvent, Tale}
pub use Rattle.nv_session.specs.Living.{GoesOnAlone, GoesOnBy, HasLife, IsCutToSaved, IsLiving, IsShapeFor, IsWork, LivesOn, RunsWith, SameStored, SessionAt, device_state, session_at, set_to}
pub use Rattle.nv_session.specs.Restoring.{FindsPrefix, FindsPrefixOf, FindsSaved, GoesBackTo, IsLeftBy, KeepsPrefixOf, Revives, TellsImage, TellsPrefix}
pub use Rattle.nv_session.specs.ReadTurns.{AwaitsLine, IsNothing, ReadsLine, TakesReadTurns}
pub use Rattle.nv_session.specs.SaveTurns.{MakesSave, TakesSteps, WorksBehind, WorksEach, is_underway}
pub use Rattle.nv_session.specs.Turns.{AwaitsRead, GoesOnSaving, HasSaved, IsPromised, IsSavedBy, MakesOneStep, SameButWaits, SameWrites, SeesLine, SeesPromised}
