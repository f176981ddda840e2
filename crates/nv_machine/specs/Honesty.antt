-- A run of events through which the gauge was honest and the device spared.
use Rattle.std.specs.Prelude.{List, [], ◌∷◌, Ok}
use Rattle.arm_state.specs.declared.refusal.ArmReply.TheVariants as arm
use Rattle.energy_budget.specs.Gauge.{IsHonestThrough}
use Rattle.nv_machine.specs.declared.events.Event.{Event}
use Rattle.nv_machine.specs.declared.events.Reply.{Reply}
use Rattle.nv_machine.specs.declared.events.Reply.TheVariants as replies
use Rattle.nv_machine.specs.State.{Setup, World}
use Rattle.nv_machine.specs.Headline.{Run, IsBacked, IsHonest, IsSpared, SavesAllWritten, paused}

module _ (setup : Setup) where
  -- in each event, and between two of them
  abbrev pub IsHonestAlong : (events : List Event) (replies : List Reply) (old new : World) → Run setup events replies old new → Type 0
  IsHonestAlong [] [] old new run = IsHonestThrough setup.shape.costs.numbers.leak old.gauge new.gauge
  IsHonestAlong (event ∷ events) (reply ∷ replies) old new run =
      IsHonestThrough setup.shape.costs.numbers.leak old.gauge run.1.pause.gauge
      × IsHonest setup (paused run.1.pause old) reply run.0
      × IsHonestAlong events replies run.0 new run.2
  IsHonestAlong [] (reply ∷ replies) old new none = ⊥
  IsHonestAlong (event ∷ events) [] old new none = ⊥

  -- in each event the device was spared
  abbrev pub IsSparedAlong : (events : List Event) (replies : List Reply) (old new : World) → Run setup events replies old new → Type 0
  IsSparedAlong [] [] old new run = Unit {0}
  IsSparedAlong (event ∷ events) (reply ∷ replies) old new run =
      IsSpared setup.shape.costs.retries old.machine.mode reply old.device run.0.device × IsSparedAlong events replies run.0 new run.2
  IsSparedAlong [] (reply ∷ replies) old new none = ⊥
  IsSparedAlong (event ∷ events) [] old new none = ⊥

  -- each loss of mains while acknowledged writes were to be saved has saved all that were accepted
  abbrev pub SavesAllAlong : (events : List Event) (replies : List Reply) (old new : World) → Run setup events replies old new → Type 0
  SavesAllAlong [] [] old new run = Unit {0}
  SavesAllAlong (event ∷ events) (reply ∷ replies) old new run = SavesAllWritten old.machine reply × SavesAllAlong events replies run.0 new run.2
  SavesAllAlong [] (reply ∷ replies) old new none = ⊥
  SavesAllAlong (event ∷ events) [] old new none = ⊥

  abbrev pub IsBackedAt : World → Type 0
  IsBackedAt world = IsBacked setup world.machine world.gauge

-- A run of these events in which the device was spared: in a loss it failed no more often than its calls may be made again, and no
-- call was made of a save that is stranded. Wherever else it failed, and how often, doesn't matter.
pub record RunsSpared (setup : Setup) (events : List Event) (replies : List Reply) (old new : World) : Type 0 where
  pub run : Run setup events replies old new
  pub spared : IsSparedAlong setup events replies old new run

-- it arms no machine
abbrev pub ArmsNone : Reply → Type 0
ArmsNone (replies.Arm (Ok arm.Armed)) = ⊥
ArmsNone reply = Unit {0}
