-- What an honest gauge is enough for, read off the calls of a module, its gauge and its device.
use Rattle.std.specs.Prelude.{◌≡◌, ℕ, ◌+◌, ◌≤◌, true, false, List, ◌++◌, All}
use Rattle.save_image.specs.Image.{Image}
use Rattle.save_device.specs.Device.{faults_of, present, StopsWithin}
use Rattle.slot_store.specs.declared.slots.Slot.{Slot}
use Rattle.slot_store.specs.declared.restoring.Verdict.TheVariants.{Complete}
use Rattle.slot_store.specs.Outcomes.{Outcome, Found, restored, verdict_of}
use Rattle.arm_state.specs.declared.loss.Loss.{Loss}
use Rattle.arm_state.specs.declared.loss.Loss.TheVariants as loss
use Rattle.arm_state.specs.Modes.{is_backed}
use Rattle.energy_budget.specs.Gauge.{IsHonestThrough}
use Rattle.channel_port.specs.declared.port.ChannelPort.{Ghosts}
use Rattle.nv_machine.specs.declared.events.Event.{Event}
use Rattle.nv_machine.specs.declared.events.Reply.{Reply}
use Rattle.nv_machine.specs.declared.events.Reply.TheVariants as replies
use Rattle.nv_machine.specs.State.{Machine}
use Rattle.nv_machine.specs.Headline.{IsBacked}
use Rattle.slot_store.specs.declared.head.Head.{Head}
use Rattle.nv_machine.specs.Honesty.{RunsSpared}
use Rattle.module_core.specs.Opening.{opened_with}
use Rattle.module_core.specs.Stands.{Assembly, ModuleStands, RunsTo, lines_of_module, setup_of, world_of}
use Rattle.module_core.specs.ModuleLives.{HasAnswered}

-- no closing save was broken off
abbrev pub IsWholeLoss : Reply → Type 0
IsWholeLoss (replies.Lose loss.Dark) = ⊥
IsWholeLoss (replies.Lose loss.Fault) = ⊥
IsWholeLoss reply = Unit {0}

-- a restore finds an image with at least so many writes
pub record HoldsUpTo (count : ℕ) (outcome : Outcome) : Type 0 where
  pub slot : Slot
  pub image : Image
  pub found : outcome ≡ Found slot image
  pub holds : count ≤ image.count

-- it finds a complete one with exactly so many
pub record HoldsAll (count : ℕ) (outcome : Outcome) : Type 0 where
  pub slot : Slot
  pub image : Image
  pub found : outcome ≡ Found slot image
  pub count_is : image.count ≡ count
  pub complete : verdict_of image.arm image.count ≡ Complete

module _ {K : Type 0} (L : Ghosts K) where
  -- from one moment to the other the gauge has counted no fault, and its leak isn't above that of the costs
  abbrev pub IsHonestSince : Assembly L → Assembly L → Type 0
  IsHonestSince first now = IsHonestThrough (setup_of L first.it).shape.costs.numbers.leak first.gauge now.gauge

  -- in the life so far, to a machine that the module stands for, the device was spared
  abbrev pub WasSpared : (found : Head) (image : Image) (events : List Event) (replies : List Reply) (first now : Assembly L) → HasAnswered L found image events replies first now → Type 0
  WasSpared found image events replies first now answered =
      RunsSpared (setup_of L first.it) events replies (world_of L first (opened_with found image)) (world_of L now answered.runs.last)

  -- whatever a stop now leaves of the bytes restores to what is so
  abbrev pub RestoresTo : (Outcome → Type 0) → Assembly L → Type 0
  RestoresTo P now = StopsWithin (λ bytes. P (restored (lines_of_module L now.it) bytes)) (present now.device)

  -- The module stands for this machine, and the gauge backs its acknowledged writes.
  pub record IsBackedNow (now : Assembly L) : Type 0 where
    pub machine : Machine
    pub stands : ModuleStands L now.it now.device machine
    pub backed : IsBacked (setup_of L now.it) machine now.gauge

  -- The gauge backs the acknowledged writes. No closing save was broken off; and unless acknowledged writes are still to be saved, a
  -- stop now leaves them all.
  pub record StaysHonest (replies : List Reply) (now : Assembly L) : Type 0 where
    pub backed : IsBackedNow now
    pub losses : All IsWholeLoss replies
    pub kept : is_backed now.it.front.mode ≡ false → RestoresTo (HoldsUpTo now.it.front.persisted) now

  -- The loss of mains was answered by a save of all accepted writes, which a restore finds.
  pub record SavesAllNow (lost : Loss) (old new : Assembly L) : Type 0 where
    pub answered : lost ≡ loss.Saved (old.it.front.saves.newest.generation + 1) old.it.front.accepted
    pub restores : RestoresTo (HoldsAll old.it.front.accepted) new

  -- A loss saves all while acknowledged writes are to be saved: where the gauge has been honest since the life began, through the loss
  -- too, and the device was spared in its events, and has failed in the loss no more often than calls may be made again.
  abbrev pub SavesWhereHonest : Loss → Assembly L → Assembly L → Type 0
  SavesWhereHonest lost old new =
      (found : Head) (image : Image) (before : List Event) (told : List Reply) (first : Assembly L) (answered : HasAnswered L found image before told first old)
      → IsHonestSince first new → WasSpared found image before told first old answered
      → faults_of new.device ≤ faults_of old.device + (setup_of L old.it).shape.costs.retries
      → is_backed old.it.front.mode ≡ true → SavesAllNow lost old new

  -- The same of calls in turn: what was so far, and what they answer, stays honest, where the gauge has been honest since the life
  -- began, through them too, and the device was spared.
  abbrev pub StaysWhereHonest : List Event → List Reply → Assembly L → Assembly L → Type 0
  StaysWhereHonest events replies old new =
      (found : Head) (image : Image) (before : List Event) (told : List Reply) (first : Assembly L) (answered : HasAnswered L found image before told first old)
      → IsHonestSince first new → WasSpared found image before told first old answered → (runs : RunsTo L events replies old answered.runs.last new)
      → RunsSpared (setup_of L old.it) events replies (world_of L old answered.runs.last) (world_of L new runs.last)
      → StaysHonest (told ++ replies) new
