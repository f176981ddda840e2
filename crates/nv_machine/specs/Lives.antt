-- Lives, each begun with what the bytes that the one before left restore to.
use Rattle.std.specs.Prelude.{◌≡◌, ℕ, Bool, ◌-◌, List, [], ◌∷◌, ◌++◌, length, take, drop, Contains, Option, Some, None}
use Rattle.std.specs.Option.{ForSome}
use Rattle.line_memory.specs.declared.Write.{Write}
use Rattle.save_device.specs.Device.{DeviceState, Moment, present, moments_of, MayLeave, StopsWithin}
use Rattle.save_image.specs.Image.{Image}
use Rattle.slot_store.specs.declared.slots.Slot.{Slot}
use Rattle.slot_store.specs.Outcomes.{Found, restored}
use Rattle.nv_machine.specs.declared.events.Event.{Event}
use Rattle.nv_machine.specs.declared.events.Reply.{Reply}
use Rattle.nv_machine.specs.State.{Setup, World}
use Rattle.energy_budget.specs.Charging.{RisesTo}
use Rattle.energy_budget.specs.Gauge.{Gauge}
use Rattle.nv_machine.specs.Headline.{AnyRun, Happens, RunBy}
use Rattle.nv_machine.specs.Opening.{new_life}

-- an event that a stop left unanswered: the reply that it was to have, and what it was to lead to
pub record Unanswered : Type 0 where
  pub event : Event
  pub reply : Reply
  pub next : World

-- the event that a stop left unanswered, where it left one
abbrev pub unanswered_event : Option Unanswered → List Event
unanswered_event None = []
unanswered_event (Some unanswered) = unanswered.event ∷ []

-- A life: the image that it was opened with, the slot that holds it, and whether the other slot's gate was known closed and settled;
-- its events and replies, and what stood before them and after them; the event within which the stop came where it came within
-- one, and the bytes that the stop left.
pub record Lived : Type 0 where
  pub setup : Setup
  pub slot : Slot
  pub closed : Bool
  pub image : Image
  pub events : List Event
  pub replies : List Reply
  pub first : World
  pub last : World
  pub unanswered : Option Unanswered
  pub bytes : List ℕ

-- the moments of a device from an earlier state of it on
abbrev pub moments_since : DeviceState → DeviceState → List Moment
moments_since old new = drop (length old.earlier) (moments_of new)

-- the moments at which the stop may have come: the last one of the events, or each one of the event that it left
-- unanswered
abbrev pub stop_moments : Option Unanswered → DeviceState → List Moment
stop_moments None device = present device ∷ []
stop_moments (Some unanswered) device = moments_since device unanswered.next.device

-- a stop at one of these moments left these bytes
pub record IsLeftAt (moments : List Moment) (bytes : List ℕ) : Type 0 where
  pub moment : Moment
  pub among : Contains moments moment
  pub left : MayLeave moment bytes

-- how many of the life's writes an image of so many holds
abbrev pub kept_writes : Lived → ℕ → List Write
kept_writes life count = take (count - life.image.count) life.last.machine.life.writes

-- the writes of all lives but the last one, each life's cut at what the next one was opened with
abbrev pub history_before : List Lived → List Write
history_before [] = []
history_before (life ∷ []) = []
history_before (life ∷ next ∷ lives) = kept_writes life next.image.count ++ history_before (next ∷ lives)

-- the last of the lives, and the image that it was opened with
abbrev pub last_life : Lived → List Lived → Lived
last_life life [] = life
last_life life (next ∷ lives) = last_life next lives

abbrev pub last_opened : Lived → List Lived → Image
last_opened life lives = (last_life life lives).image

-- The machine of a life was new at first, and its device held the image that it was opened with. Its events are a run, whatever
-- gauges they were handed, and a stop after them, or at any moment of one event more, left the bytes.
pub record IsLived (life : Lived) : Type 0 where
  pub begins : life.first.machine ≡ new_life life.slot life.closed life.image
  pub opened : StopsWithin (λ bytes. restored life.setup.shape.lines bytes ≡ Found life.slot life.image) (present life.first.device)
  pub run : AnyRun life.setup life.events life.replies life.first life.last
  pub unanswered : ForSome life.unanswered (λ it. Happens life.setup it.event it.reply life.last it.next)
  pub left : IsLeftAt (stop_moments life.unanswered life.last.device) life.bytes

-- a restore finds this image in the bytes that the life left
abbrev pub LeavesImage : Slot → Image → Lived → Type 0
LeavesImage slot image life = restored life.setup.shape.lines life.bytes ≡ Found slot image

-- the next life was opened with what a restore finds in the bytes that this one left
abbrev pub LeadsTo : Lived → Lived → Type 0
LeadsTo life next = LeavesImage next.slot next.image life

abbrev pub AreChained : List Lived → Type 0
AreChained [] = Unit {0}
AreChained (life ∷ []) = IsLived life
AreChained (life ∷ next ∷ lives) = IsLived life × LeadsTo life next × AreChained (next ∷ lives)

-- A life so far, which leads here: its machine was new at first, its device held the image that it was opened with, and its events
-- are a run to this moment, by a rule for the gauge between two of them.
pub record LivedBy (Gauged : Gauge → Gauge → Type 0) (setup : Setup) (now : World) : Type 0 where
  pub slot : Slot
  pub closed : Bool
  pub image : Image
  pub events : List Event
  pub replies : List Reply
  pub first : World
  pub begins : first.machine ≡ new_life slot closed image
  pub opened : StopsWithin (λ bytes. restored setup.shape.lines bytes ≡ Found slot image) (present first.device)
  pub run : RunBy Gauged setup events replies first now

-- one with the same gauge all along
abbrev pub LivedUntil : Setup → World → Type 0
LivedUntil = LivedBy RisesTo
