-- What is asked of a whole module with its record.
use Rattle.std.specs.Prelude.{◌≡◌, ℕ, [], Result}
use Rattle.arm_state.specs.declared.loss.Loss.{Loss}
use Rattle.arm_state.specs.declared.refusal.ArmRefusal.{ArmRefusal}
use Rattle.arm_state.specs.declared.refusal.ArmReply.{ArmReply}
use Rattle.arm_state.specs.declared.refusal.DisarmReply.{DisarmReply}
use Rattle.channel_port.specs.declared.port.ChannelPort.{Ghosts}
use Rattle.energy_budget.specs.declared.energy.Energy.{Ghosts as GaugeGhosts}
use Rattle.line_memory.specs.History.{Recorded, cut_at}
use Rattle.module_core.specs.Stands.{setup_of}
use Rattle.nv_machine.specs.Headline.{Happens, Rests}
use Rattle.nv_machine.specs.Rising.{added}
use Rattle.nv_machine.specs.State.{Machine, Setup, World}
use Rattle.nv_machine.specs.declared.events.Event.{Event}
use Rattle.nv_machine.specs.declared.events.Event.TheVariants as events
use Rattle.nv_machine.specs.declared.events.Reply.{Reply}
use Rattle.nv_machine.specs.declared.events.Reply.TheVariants as replies
use Rattle.nv_machine.specs.declared.events.StepReply.{StepReply}
use Rattle.board_hosts.specs.Kept.{StandsWith}
use Rattle.board_hosts.specs.Lived.{world_for}
use Rattle.board_hosts.specs.declared.recorded_module.RecordedModule.{RecordedModule}
use Rattle.save_device.specs.declared.device.SaveDevice.{Ghosts as DeviceGhosts}

-- what a call of a whole module is to its life: one event with its reply, or a pause
pub data Course : Type 0 where
  Answered : Event → Reply → Course
  Paused : Course

-- that of each event of a whole module
abbrev pub arm_course : Result ArmReply ArmRefusal → Course
arm_course answer = Answered events.Arm (replies.Arm answer)

abbrev pub disarm_course : Result DisarmReply ArmRefusal → Course
disarm_course answer = Answered events.Disarm (replies.Disarm answer)

abbrev pub sense_course : ℕ → Course
sense_course level = Answered events.Sense (replies.Sense level)

abbrev pub save_begin_course : Result (Unit {0}) ArmRefusal → Course
save_begin_course answer = Answered events.SaveBegin (replies.SaveBegin answer)

abbrev pub save_step_course : StepReply → Course
save_step_course reply = Answered events.SaveStep (replies.SaveStep reply)

abbrev pub loss_course : Loss → Course
loss_course loss = Answered events.Lose (replies.Lose loss)

-- to what it leads
abbrev pub GoesAlong : Course → Setup → World → World → Type 0
GoesAlong (Answered event reply) setup old new = Happens setup event reply old new
GoesAlong Paused setup old new = Rests old new

-- it accepts no write
abbrev pub AddsNone : Course → Type 0
AddsNone (Answered event reply) = added event reply ≡ []
AddsNone Paused = Unit {0}

-- of the record nothing has changed, or it was cut to the end of the newest image
abbrev pub same_record : ℕ → Recorded → Recorded → Type 0
same_record saved old new = new ≡ old

abbrev pub cut_record : ℕ → ℕ → Recorded → Recorded → Type 0
cut_record from saved old new = (from ≡ saved) × (new ≡ cut_at from old)

module _ {K D E : Type 0} (L : Ghosts K) (M : DeviceGhosts D) (N : GaugeGhosts E) where
  -- Whichever machine module and record stood for, they stand for one to which this course leads.
  abbrev pub GoesBy : Course → RecordedModule K D E L → RecordedModule K D E L → Type 0
  GoesBy course old new = (m : Machine) → StandsWith L M old m
      → (n : Machine) × StandsWith L M new n × GoesAlong course (setup_of L old.running) (world_for L M N old m) (world_for L M N new n)
