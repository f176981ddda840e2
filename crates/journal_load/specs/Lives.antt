-- What a call of a life comes to, where it is made once, or until it is taken.
use Rattle.std.specs.Prelude.{ℕ, Ok}
use Rattle.line_memory.specs.declared.Write.{Write}
use Rattle.channel_port.specs.declared.port.ChannelPort.{Ghosts}
use Rattle.nv_machine.specs.declared.events.Accepted.{Accepted}
use Rattle.arm_state.specs.declared.refusal.ArmReply.{ArmReply}
use Rattle.nv_machine.specs.declared.events.Event.TheVariants as events
use Rattle.nv_machine.specs.declared.events.Reply.TheVariants as replies
use Rattle.nv_machine.specs.declared.events.StepReply.TheVariants as step
use Rattle.arm_state.specs.declared.refusal.DisarmReply.{DisarmReply}
use Rattle.module_core.specs.declared.module.Module.{Module}
use Rattle.module_core.specs.Stands.{Answers, AnswersAlone, Assembly}

module _ {K : Type 0} (L : Ghosts K) where
  -- the last call was this write, which was accepted so
  pub record HasWritten (write : Write) (accepted : Accepted) (new : Module K L) : Type 0 where
    pub old : Module K L
    pub answers : AnswersAlone L (events.Write write) (replies.Write (Ok accepted)) old new

  -- the module was armed, or was so already
  pub record HasArmed (old new : Assembly L) : Type 0 where
    pub reply : ArmReply
    pub answers : Answers L events.Arm (replies.Arm (Ok reply)) old new

  -- its disarming was begun, or it was disarmed
  pub record HasDisarmed (old new : Module K L) : Type 0 where
    pub reply : DisarmReply
    pub answers : AnswersAlone L events.Disarm (replies.Disarm (Ok reply)) old new

  -- the last call was a step of a save, and ended it
  pub record HasSaved (new : Assembly L) : Type 0 where
    pub old : Assembly L
    pub generation : ℕ
    pub count : ℕ
    pub answers : Answers L events.SaveStep (replies.SaveStep (step.Saved generation count)) old new
