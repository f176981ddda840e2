-- The events of a save: its steps, and where one had to wait a work on each channel before the next.
use Rattle.std.specs.Prelude.{◌≡◌, ℕ, zero, suc, ◌<◌, Bool, true, false, List, [], ◌∷◌, ◌++◌, Result, Ok, Err, Option}
use Rattle.arm_state.specs.declared.refusal.ArmRefusal.{ArmRefusal}
use Rattle.channel_port.specs.declared.answers.Done.{Done}
use Rattle.nv_machine.specs.declared.events.Event.{Event}
use Rattle.nv_machine.specs.declared.events.Event.TheVariants as events
use Rattle.nv_machine.specs.declared.events.Reply.{Reply}
use Rattle.nv_machine.specs.declared.events.Reply.TheVariants as replies
use Rattle.nv_machine.specs.declared.events.StepReply.{StepReply}
use Rattle.nv_machine.specs.declared.events.StepReply.TheVariants as step
use Rattle.nv_machine.specs.State.{Machine}
use Rattle.nv_session.specs.Turns.{AreOfStep, GoesOnSaving, SameButWaits}

-- a save is underway behind a step that was made, but for its last one, behind one that is made again and behind one that had to
-- wait
abbrev pub is_underway : StepReply → Bool
is_underway (step.Did made) = true
is_underway step.Retry = true
is_underway step.Waiting = true
is_underway step.NoSave = false
is_underway step.Turned = false
is_underway (step.Saved generation count) = false
is_underway step.Fault = false

-- one work on each of so many channels, in turn
abbrev pub AreWorks : ℕ → List Event → List Reply → Type 0
AreWorks zero asked told = (asked ≡ []) × (told ≡ [])
AreWorks (suc channel) asked told =
    (before : List Event) × (given : List Reply) × (done : Option Done) × AreWorks channel before given
    × (asked ≡ before ++ events.Work channel ∷ []) × (told ≡ given ++ replies.Work done ∷ [])

-- the works behind a step with this reply: on each channel where it had to wait, else none
abbrev pub AreWorksBehind : ℕ → StepReply → List Event → List Reply → Type 0
AreWorksBehind channels step.Waiting asked told = AreWorks channels asked told
AreWorksBehind channels reply asked told = (asked ≡ []) × (told ≡ [])

-- works alone
pub record WorksEach (channels : ℕ) (asked : List Event) (told : List Reply) (old new : Machine) : Type 0 where
  pub same : SameButWaits old new
  pub are : AreWorks channels asked told

pub record WorksBehind (channels : ℕ) (reply : StepReply) (asked : List Event) (told : List Reply) (old new : Machine) : Type 0 where
  pub same : SameButWaits old new
  pub are : AreWorksBehind channels reply asked told

-- A further step of a save, which is underway behind one with the reply `was`, after these events.
pub record TakesStep (channels : ℕ) (was reply : StepReply) (before : List Event) (given : List Reply) (asked : List Event) (told : List Reply) : Type 0 where
  pub underway : is_underway was ≡ true
  pub works : List Event
  pub done : List Reply
  pub behind : AreWorksBehind channels was works done
  pub asked_is : asked ≡ (before ++ works) ++ events.SaveStep ∷ []
  pub told_is : told ≡ (given ++ done) ++ replies.SaveStep reply ∷ []

-- the first step of a save, which is begun where none runs, and so many further ones, of which the last has this reply
abbrev pub TakesSteps : ℕ → ℕ → StepReply → List Event → List Reply → Type 0
TakesSteps channels zero reply asked told = AreOfStep (Ok reply) asked told
TakesSteps channels (suc further) reply asked told =
    (was : StepReply) × (before : List Event) × (given : List Reply) × TakesSteps channels further was before given × TakesStep channels was reply before given asked told

-- Steps of a save, 4,096 at most, up to the first behind which it isn't underway any more: it still is only behind all of them.
pub record EndsSave (channels : ℕ) (reply : StepReply) (asked : List Event) (told : List Reply) : Type 0 where
  pub further : ℕ
  pub most : further < 4096
  pub takes : TakesSteps channels further reply asked told
  pub ends : is_underway reply ≡ true → further ≡ 4095

-- the events of a save with this result
abbrev pub AreOfSave : ℕ → Result StepReply ArmRefusal → List Event → List Reply → Type 0
AreOfSave channels (Ok reply) asked told = EndsSave channels reply asked told
AreOfSave channels (Err refusal) asked told = AreOfStep (Err refusal) asked told

-- a save is made, or the rest of one: what it keeps and leaves, and the events that it takes
pub record MakesSave (channels : ℕ) (result : Result StepReply ArmRefusal) (asked : List Event) (told : List Reply) (old new : Machine) : Type 0 where
  pub goes_on : GoesOnSaving result asked told old new
  pub are : AreOfSave channels result asked told
