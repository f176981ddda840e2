-- What a stop at any moment of a life so far leaves, within an event or a device write too.
use Rattle.std.specs.Prelude.{◌≡◌, ℕ, List, [], ◌∷◌, ◌++◌, Option}
use Rattle.std.specs.Option.{ForSome}
use Rattle.save_image.specs.Image.{Image}
use Rattle.slot_store.specs.declared.slots.Slot.{Slot}
use Rattle.energy_budget.specs.Gauge.{Gauge}
use Rattle.nv_machine.specs.declared.events.Event.{Event}
use Rattle.nv_machine.specs.declared.events.Reply.{Reply}
use Rattle.nv_machine.specs.State.{Setup, World}
use Rattle.nv_machine.specs.Headline.{Happens, RunBy}
use Rattle.nv_machine.specs.Lives.{AreChained, IsLeftAt, LeavesImage, Lived, LivedBy, Unanswered, last_life, moments_since, stop_moments, unanswered_event}
use Rattle.nv_machine.specs.Survival.{IsSurvivedBehind}

-- A stop in a run: the events before the one that it left unanswered, that event if there is one, and the rest.
pub record StopsAmong (Gauged : Gauge → Gauge → Type 0) (setup : Setup) (events : List Event) (replies : List Reply) (old new : World) (bytes : List ℕ) : Type 0 where
  pub front : List Event
  pub told : List Reply
  pub last : World
  pub unanswered : Option Unanswered
  pub rest : List Event
  pub untold : List Reply
  pub parts : events ≡ front ++ unanswered_event unanswered ++ rest
  pub told_are : replies ≡ told ++ untold
  pub run : RunBy Gauged setup front told old last
  pub goes_on : RunBy Gauged setup (unanswered_event unanswered ++ rest) untold last new
  pub happens : ForSome unanswered (λ it. Happens setup it.event it.reply last it.next)
  pub left : IsLeftAt (stop_moments unanswered last.device) bytes

-- these lives are a chain, and the last of them, if there is one, left this image
abbrev pub LeaveImage : Slot → Image → List Lived → Type 0
LeaveImage slot image [] = Unit {0}
LeaveImage slot image (life ∷ lives) = AreChained (life ∷ lives) × LeavesImage slot image (last_life life lives)

module _ (Gauged : Gauge → Gauge → Type 0) (setup : Setup) (now : World) (so : LivedBy Gauged setup now) where
  -- the life that a stop there ended
  abbrev pub stopped_life : (bytes : List ℕ) → StopsAmong Gauged setup so.events so.replies so.first now bytes → Lived
  stopped_life bytes stop = record {
    setup = setup;
    slot = so.slot;
    closed = so.closed;
    image = so.image;
    events = stop.front;
    replies = stop.told;
    first = so.first;
    last = stop.last;
    unanswered = stop.unanswered;
    bytes = bytes;
  }

  -- A stop ended the life behind these lives: they are a chain of the headline, and a restore finds what it says.
  pub record SurvivesStop (lives : List Lived) (bytes : List ℕ) : Type 0 where
    pub stop : StopsAmong Gauged setup so.events so.replies so.first now bytes
    pub chained : AreChained (lives ++ stopped_life bytes stop ∷ [])
    pub survived : IsSurvivedBehind lives (stopped_life bytes stop)

  -- a stop at any moment since the life began does, behind whichever lives left what it was opened with
  abbrev pub SurvivesStops : Type 0
  SurvivesStops = (lives : List Lived) (bytes : List ℕ) → LeaveImage so.slot so.image lives → IsLeftAt (moments_since so.first.device now.device) bytes → SurvivesStop lives bytes
