-- What a restore finds after lives, the last of which a stop ended at any of its moments.
use Rattle.std.specs.Prelude.{◌≡◌, ◌≢◌, ◌⊎◌, ℕ, ◌+◌, ◌≤◌, false, List, [], ◌∷◌, ◌++◌, length, All, Ok, Option, Some, None}
use Rattle.line_memory.specs.declared.Write.{Write}
use Rattle.line_memory.specs.Memory.{after}
use Rattle.save_image.specs.Image.{Image}
use Rattle.slot_store.specs.declared.slots.Slot.{Slot}
use Rattle.slot_store.specs.declared.restoring.Verdict.TheVariants.{Complete}
use Rattle.slot_store.specs.Outcomes.{Outcome, Found, restored, verdict_of}
use Rattle.slot_store.specs.Rest.{IsAmong}
use Rattle.arm_state.specs.Modes.{is_backed}
use Rattle.energy_budget.specs.Gauge.{IsHonestThrough}
use Rattle.nv_machine.specs.declared.events.StepReply.TheVariants as step
use Rattle.arm_state.specs.declared.loss.Loss.TheVariants as loss
use Rattle.nv_machine.specs.declared.events.Reply.{Reply}
use Rattle.nv_machine.specs.declared.events.Reply.TheVariants as replies
use Rattle.nv_machine.specs.State.{Machine}
use Rattle.nv_machine.specs.Guard.{HasCause}
use Rattle.nv_machine.specs.Headline.{Run, MayFindMeanwhile, HasCauseMeanwhile}
use Rattle.nv_machine.specs.Honesty.{IsSparedAlong}
use Rattle.nv_machine.specs.Lives.{Unanswered, Lived, kept_writes, last_life}
use Rattle.nv_machine.specs.Causes.{HasCauseSince, OpenedWith}

-- the accepted writes of all lives, each life's cut at what the next one was opened with, and the last one's at this count
abbrev pub history_to : List Lived → ℕ → List Write
history_to [] count = []
history_to (life ∷ []) count = kept_writes life count
history_to (life ∷ next ∷ lives) count = kept_writes life next.image.count ++ history_to (next ∷ lives) count

-- up to which number a reply tells that writes are persistent
abbrev pub told_mark : Reply → ℕ
told_mark (replies.Write (Ok accepted)) = accepted.mark
told_mark (replies.SaveStep (step.Saved generation count)) = count
told_mark (replies.Lose (loss.Saved generation count)) = count
told_mark reply = 0

-- how many writes were acknowledged as persistent by the life's last reply
abbrev pub acknowledged : Lived → ℕ
acknowledged life = life.last.machine.life.persisted

-- why a stop there may leave this image, which isn't complete
abbrev pub HasCauseAt : Option Unanswered → Machine → Image → Type 0
HasCauseAt None m image = HasCause m image
HasCauseAt (Some unanswered) m image = HasCauseMeanwhile unanswered.reply m unanswered.next.machine image

-- what a restore may find there: an image that may be the newest then, or within the event that was left unanswered
abbrev pub MayBeNewest : Option Unanswered → Machine → Outcome → Type 0
MayBeNewest None m outcome = IsAmong m.store.maybe outcome
MayBeNewest (Some unanswered) m outcome = MayFindMeanwhile unanswered.reply m.store.maybe unanswered.next.machine.store.maybe outcome

-- The gauge has counted no fault in the life, and its leak isn't above that of the costs; in each event the device was spared;
-- and at the stop no closing save was due any more: the loss of mains was answered, or the module was disarmed.
pub record IsHonestLife (life : Lived) : Type 0 where
  pub run : Run life.setup life.events life.replies life.first life.last
  pub gauge : IsHonestThrough life.setup.shape.costs.numbers.leak life.first.gauge life.last.gauge
  pub spared : IsSparedAlong life.setup life.events life.replies life.first life.last run
  pub settled : is_backed life.last.machine.mode ≡ false

-- A restore after a life finds this image, one that may be the newest, no older than what the life was opened with. Complete,
-- it holds each write acknowledged as persistent; after an honest life it holds them whatever it is called; and where it
-- isn't complete there is a cause in the life.
pub record IsRecovered (life : Lived) (image : Image) : Type 0 where
  pub slot : Slot
  pub found : restored life.setup.shape.lines life.bytes ≡ Found slot image
  pub newest : MayBeNewest life.unanswered life.last.machine (Found slot image)
  pub from : life.image.count ≤ image.count
  pub complete : verdict_of image.arm image.count ≡ Complete → acknowledged life ≤ image.count
  pub honest : IsHonestLife life → acknowledged life ≤ image.count
  pub cause : verdict_of image.arm image.count ≢ Complete → HasCauseAt life.unanswered life.last.machine image
  pub told : All (λ reply. told_mark reply ≤ acknowledged life) life.replies

-- A restore after the last of these lives finds an image, whose memory is the one after a prefix of the writes accepted in all.
-- Where it isn't complete one of the lives has a cause of its own since the image was made, or all of them began with it.
pub record IsSurvived (life : Lived) (lives : List Lived) : Type 0 where
  pub image : Image
  pub recovered : IsRecovered (last_life life lives) image
  pub memory : image.memory ≡ after life.image.memory (history_to (life ∷ lives) image.count)
  pub count : image.count ≡ life.image.count + length (history_to (life ∷ lives) image.count)
  pub cause : verdict_of image.arm image.count ≢ Complete
      → HasCauseSince (life ∷ lives) image ⊎ OpenedWith image (life ∷ lives)

-- the same after lives, the last of which is this one
abbrev pub IsSurvivedBehind : List Lived → Lived → Type 0
IsSurvivedBehind [] life = IsSurvived life []
IsSurvivedBehind (first ∷ lives) life = IsSurvived first (lives ++ life ∷ [])
