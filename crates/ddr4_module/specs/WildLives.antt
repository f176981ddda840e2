-- A life with any device and any gauge, and what a restore finds after a stop at any moment of it.
use Rattle.std.specs.Prelude.{◌≡◌, ◌<◌, ℕ, List, [], ◌++◌}
use Rattle.energy_budget.specs.Gauge.{Gauge}
use Rattle.save_device.specs.Device.{DeviceState, LeavesOnly, MayLeave, present}
use Rattle.save_image.specs.Image.{Image}
use Rattle.slot_store.specs.declared.slots.Slot.{Slot}
use Rattle.slot_store.specs.Outcomes.{Found, restored}
use Rattle.nv_machine.specs.declared.events.Event.{Event}
use Rattle.nv_machine.specs.declared.events.Event.TheVariants as events
use Rattle.nv_machine.specs.declared.events.Reply.{Reply}
use Rattle.nv_machine.specs.Headline.{Run}
use Rattle.nv_machine.specs.State.{Setup}
use Rattle.nv_machine.specs.Lives.{Lived, IsLived, IsLeftAt, moments_since, unanswered_event}
use Rattle.nv_machine.specs.Survival.{IsSurvived}

-- a work names one of so many channels
abbrev pub WorksWithin : ℕ → Event → Type 0
WorksWithin channels (events.Work channel) = channel < channels
WorksWithin channels event = Unit {0}

-- what a life began with: what doesn't change in it, the image that a restore found, the device as that left it, and the gauge
pub record Beginning : Type 0 where
  pub setup : Setup
  pub slot : Slot
  pub image : Image
  pub device : DeviceState
  pub gauge : Gauge

-- the life began so
pub record BeganWith (from : Beginning) (life : Lived) : Type 0 where
  pub setup : life.setup ≡ from.setup
  pub slot : life.slot ≡ from.slot
  pub image : life.image ≡ from.image
  pub device : life.first.device ≡ from.device
  pub gauge : life.first.gauge ≡ from.gauge

-- its events are the first of these, behind which may come the one that the stop left unanswered, and its replies the first of these
pub record IsFrontOf (events : List Event) (replies : List Reply) (life : Lived) : Type 0 where
  pub rest : List Event
  pub untold : List Reply
  pub parts : events ≡ life.events ++ unanswered_event life.unanswered ++ rest
  pub told : replies ≡ life.replies ++ untold

-- A stop among these events left these bytes. They end a life that began so, with one gauge, and a restore of them finds what survives
-- of it.
pub record OutlivesStop (from : Beginning) (events : List Event) (replies : List Reply) (bytes : List ℕ) : Type 0 where
  pub life : Lived
  pub began : BeganWith from life
  pub front : IsFrontOf events replies life
  pub left : life.bytes ≡ bytes
  pub run : Run life.setup life.events life.replies life.first life.last
  pub lived : IsLived life
  pub survived : IsSurvived life []

-- A restore of the device found an image and changed no byte, and a life began with that. Each stop since, at whichever moment, even
-- within a device write, leaves what survives.
pub record SurvivesEachStop (setup : Setup) (gauge : Gauge) (events : List Event) (replies : List Reply) (old new : DeviceState) : Type 0 where
  pub from : Beginning
  pub over : from.setup ≡ setup
  pub with : from.gauge ≡ gauge
  pub found : restored setup.shape.lines old.bytes ≡ Found from.slot from.image
  pub same : from.device.bytes ≡ old.bytes
  pub restoring : LeavesOnly old from.device (MayLeave (present old))
  pub survives : (bytes : List ℕ) → IsLeftAt (moments_since from.device new) bytes → OutlivesStop from events replies bytes
