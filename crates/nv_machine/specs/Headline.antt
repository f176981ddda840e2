-- What a stop at each moment of an event leaves, and what an honest gauge is enough for.
use Rattle.std.specs.Prelude.{◌≡◌, ◌≢◌, ◌⊎◌, ℕ, ◌+◌, ◌-◌, ◌<◌, ◌≤◌, Bool, true, false, List, [], ◌∷◌, Ok, Err, Option, Some, if◌then◌else◌}
use Rattle.save_image.specs.Image.{Image}
use Rattle.save_device.specs.Device.{DeviceState, present, faults_of, StopsWithin, LeavesOnly}
use Rattle.slot_store.specs.declared.slots.Slot.{Slot}
use Rattle.slot_store.specs.Outcomes.{Outcome, Found, restored}
use Rattle.slot_store.specs.Rest.{Candidates, IsAmong}
use Rattle.slot_store.specs.Steps.{steps_left}
use Rattle.arm_state.specs.declared.mode.Mode.{Mode}
use Rattle.arm_state.specs.declared.mode.Mode.TheVariants as modes
use Rattle.arm_state.specs.declared.refusal.ArmRefusal.TheVariants as refusals
use Rattle.arm_state.specs.declared.refusal.ArmReply.TheVariants as arm
use Rattle.arm_state.specs.Modes.{is_armed, is_backed}
use Rattle.energy_budget.specs.Sums.{backing_level, save_ticks}
use Rattle.energy_budget.specs.Gauge.{Gauge, IsHonestThrough}
use Rattle.energy_budget.specs.Charging.{RisesTo}
use Rattle.arm_state.specs.declared.loss.Loss.TheVariants as loss
use Rattle.nv_machine.specs.declared.events.Event.{Event}
use Rattle.nv_machine.specs.declared.events.Reply.{Reply}
use Rattle.nv_machine.specs.declared.events.Reply.TheVariants as replies
use Rattle.nv_machine.specs.State.{Setup, RunningSave, Machine, World, newest_of, pending_of, made_of}
use Rattle.nv_machine.specs.Refusals.{need_for}
use Rattle.nv_machine.specs.Machine.{MachineStep}
use Rattle.nv_machine.specs.Guard.{IsPrefix, HasCause, would_lose_acknowledged}

-- A restore finds an image: the memory after a prefix of the accepted writes. Where it is complete it holds each write that
-- was acknowledged, and where nothing may be lacking it holds them all the same. Where it isn't complete there is a cause.
pub record Recovers (m : Machine) (Why : Image → Type 0) (outcome : Outcome) : Type 0 where
  pub slot : Slot
  pub image : Image
  pub found : outcome ≡ Found slot image
  pub prefix : IsPrefix m image
  pub complete : image.arm ≡ 0 → m.life.persisted ≤ image.count
  pub cause : image.arm ≢ 0 → Why image
  pub holds_all : would_lose_acknowledged m ≡ false → m.life.persisted ≤ image.count

-- in an event with this reply the arm byte of the newest image was written
abbrev pub marks : Reply → Bool
marks (replies.Arm (Ok arm.Armed)) = true
marks (replies.Arm (Err refusals.Device)) = true
marks reply = false

-- what a stop within an event may make the newest: what it could before the event, with any arm byte where that was written,
-- and what it may after it
abbrev pub MayFindMeanwhile : Reply → Candidates → Candidates → Outcome → Type 0
MayFindMeanwhile reply old new outcome =
    IsAmong (if marks reply then record old { any_arm = true } else old) outcome ⊎ IsAmong new outcome

-- why a stop within an event may leave this image, which isn't complete
abbrev pub HasCauseMeanwhile : Reply → Machine → Machine → Image → Type 0
HasCauseMeanwhile reply old new image = (marks reply ≡ true) ⊎ HasCause old image ⊎ HasCause new image

-- a stop since the event's start: with the writes acknowledged before it
pub record RecoversMeanwhile (reply : Reply) (old new : Machine) (outcome : Outcome) : Type 0 where
  pub among : MayFindMeanwhile reply old.store.maybe new.store.maybe outcome
  pub recovers : Recovers old (HasCauseMeanwhile reply old new) outcome

-- a stop at its end: with the writes acknowledged by then
pub record RecoversAfterwards (new : Machine) (outcome : Outcome) : Type 0 where
  pub among : IsAmong new.store.maybe outcome
  pub recovers : Recovers new (HasCause new) outcome

-- how often the gauge may still be ticked until the save of a disarming is done
abbrev pub ticks_until_saved : Setup → Mode → Option RunningSave → ℕ
ticks_until_saved setup modes.Armed saving = save_ticks setup.shape.costs
ticks_until_saved setup modes.Disarming (Some save) = steps_left setup.shape.lines save.next + (setup.shape.costs.retries - save.repeats)
ticks_until_saved setup mode saving = 0

abbrev pub ticks_left : Setup → Machine → ℕ
ticks_left setup m = ticks_until_saved setup m.mode m.store.saving

-- The energy bound. While acknowledged writes are to be saved the gauge holds what a closing save may cost, and the leak of
-- the ticks until then. While armed the last reading shows it.
pub record IsBacked (setup : Setup) (m : Machine) (gauge : Gauge) : Type 0 where
  pub bound : is_backed m.mode ≡ true → backing_level setup.shape.costs (pending_of m) (ticks_left setup m) ≤ gauge.level
  pub shown : is_armed m.mode ≡ true → need_for setup (pending_of m) ≤ m.reading
  pub read : is_armed m.mode ≡ true → m.reading ≤ gauge.level

-- The device fails no more often in a closing save than its calls may be made again, and once a disarming is stranded no
-- further call of it is made.
abbrev pub IsSpared : ℕ → Mode → Reply → DeviceState → DeviceState → Type 0
IsSpared retries mode (replies.Lose lost) old new = faults_of new ≤ faults_of old + retries
IsSpared retries modes.Stranded (replies.SaveStep reply) old new = new ≡ old
IsSpared retries mode reply old new = Unit {0}

-- in this event the gauge was honest, and the device spared
pub record IsHonest (setup : Setup) (old : World) (reply : Reply) (new : World) : Type 0 where
  pub gauge : IsHonestThrough setup.shape.costs.numbers.leak old.gauge new.gauge
  pub spared : IsSpared setup.shape.costs.retries old.machine.mode reply old.device new.device

-- a loss of mains while acknowledged writes are to be saved saves all that were accepted
abbrev pub SavesAllWritten : Machine → Reply → Type 0
SavesAllWritten m (replies.Lose lost) = is_backed m.mode ≡ true → lost ≡ loss.Saved (made_of false m).generation (made_of false m).count
SavesAllWritten m reply = Unit {0}

-- what backed the writes before an event backs them after it, and a loss saves them
pub record StaysBacked (setup : Setup) (old : World) (reply : Reply) (new : World) : Type 0 where
  pub backed : IsBacked setup new.machine new.gauge
  pub saves : SavesAllWritten old.machine reply

-- One event: what its step is, what a stop within it and at its end leaves, and what an honest gauge is enough for.
pub record Happens (setup : Setup) (event : Event) (reply : Reply) (old new : World) : Type 0 where
  pub step : MachineStep setup event reply old new
  pub meanwhile : LeavesOnly old.device new.device (λ bytes. RecoversMeanwhile reply old.machine new.machine (restored setup.shape.lines bytes))
  pub at_end : StopsWithin (λ bytes. RecoversAfterwards new.machine (restored setup.shape.lines bytes)) (present new.device)
  pub honest : IsHonest setup old reply new → IsBacked setup old.machine old.gauge → StaysBacked setup old reply new

-- what may change between two events: the gauge, and where the stored writes begin
pub record Pause : Type 0 where
  pub gauge : Gauge
  pub cut : ℕ

-- as they are now
abbrev pub pause_at : World → Pause
pause_at world = record { gauge = world.gauge; cut = world.machine.cut }

-- the same moment after a pause
abbrev pub paused : Pause → World → World
paused pause world = record world { machine = record world.machine { cut = pause.cut }; gauge = pause.gauge }

-- The cut stays, or moves forward to at most the end of the newest image that is known settled.
pub record MayCut (m : Machine) (cut : ℕ) : Type 0 where
  pub rises : m.cut ≤ cut
  pub most : m.cut < cut → cut ≤ (newest_of m).count

-- events in turn, with what stands between them, and what may be between two of them
abbrev pub RunOf : {P : Type 0} → (P → P → Type 0) → (Event → Reply → P → P → Type 0) → List Event → List Reply → P → P → Type 0
RunOf Between Goes [] [] old new = Between old new
RunOf {P} Between Goes (event ∷ events) (reply ∷ replies) old new = (mid : P) × Goes event reply old mid × RunOf Between Goes events replies mid new
RunOf Between Goes [] (reply ∷ replies) old new = ⊥
RunOf Between Goes (event ∷ events) [] old new = ⊥

-- between two events the gauge may become any other
abbrev pub AnyGauge : Gauge → Gauge → Type 0
AnyGauge old new = Unit {0}

-- by a rule for the gauge between two events
module _ (Gauged : Gauge → Gauge → Type 0) where
  -- the gauge keeps the rule, and the stored writes may be cut
  pub record MayPauseBy (old : World) (pause : Pause) : Type 0 where
    pub gauge : Gauged old.gauge pause.gauge
    pub cut : MayCut old.machine pause.cut

  -- Between two events nothing has changed but that.
  pub record RestsBy (old new : World) : Type 0 where
    pub may : MayPauseBy old (pause_at new)
    pub is : new ≡ paused (pause_at new) old

  -- one event, before which there may have been a pause
  pub record HappensNextBy (setup : Setup) (event : Event) (reply : Reply) (old new : World) : Type 0 where
    pub pause : Pause
    pub may : MayPauseBy old pause
    pub happens : Happens setup event reply (paused pause old) new

  -- There may be a pause before each event and after the last one.
  abbrev pub RunBy : Setup → List Event → List Reply → World → World → Type 0
  RunBy setup = RunOf RestsBy (HappensNextBy setup)

-- a run with whatever gauges
abbrev pub AnyRun : Setup → List Event → List Reply → World → World → Type 0
AnyRun = RunBy AnyGauge

-- A run with one gauge: between two events it may be charged, and counts a fault where its level falls.
abbrev pub MayPause : World → Pause → Type 0
MayPause = MayPauseBy RisesTo

abbrev pub Rests : World → World → Type 0
Rests = RestsBy RisesTo

abbrev pub HappensNext : Setup → Event → Reply → World → World → Type 0
HappensNext = HappensNextBy RisesTo

abbrev pub Run : Setup → List Event → List Reply → World → World → Type 0
Run = RunBy RisesTo
