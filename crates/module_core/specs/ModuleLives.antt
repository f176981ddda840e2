-- The lives of modules: what a module promises of the events that it answers is a life.
use Rattle.std.specs.Prelude.{◌≡◌, ℕ, List, [], ◌++◌, Option, Some, None}
use Rattle.save_image.specs.Image.{Image}
use Rattle.save_device.specs.Device.{present, MayLeave}
use Rattle.channel_port.specs.declared.port.ChannelPort.{Ghosts}
use Rattle.nv_machine.specs.declared.events.Event.{Event}
use Rattle.nv_machine.specs.declared.events.Reply.{Reply}
use Rattle.nv_machine.specs.State.{Machine, World}
use Rattle.nv_machine.specs.Headline.{AnyGauge, AnyRun, Run}
use Rattle.nv_machine.specs.StoppedRuns.{StopsAmong}
use Rattle.nv_machine.specs.Survival.{IsSurvived}
use Rattle.nv_machine.specs.Lives.{Unanswered, Lived, IsLived, IsLeftAt, moments_since, unanswered_event}
use Rattle.slot_store.specs.declared.head.Head.{Head}
use Rattle.module_core.specs.Opening.{opened_with}
use Rattle.module_core.specs.Stands.{Assembly, ModuleStands, Answers, RunsTo, setup_of, world_of}

module _ {K : Type 0} (L : Ghosts K) where
  -- A module that began with this image has answered these events since. Between two of them its gauge may have been charged.
  pub record HasAnswered (found : Head) (image : Image) (events : List Event) (replies : List Reply) (old new : Assembly L) : Type 0 where
    pub begins : ModuleStands L old.it old.device (opened_with found image)
    pub runs : RunsTo L events replies old (opened_with found image) new
    pub setup : setup_of L new.it ≡ setup_of L old.it

  -- The life so far of a module with its device and its gauge: what it began with, and what it has answered since.
  pub record LifeSoFar (now : Assembly L) : Type 0 where
    pub found : Head
    pub image : Image
    pub events : List Event
    pub replies : List Reply
    pub first : Assembly L
    pub answered : HasAnswered found image events replies first now

  -- its life: the machine that it stood for in the end, the event that a stop left unanswered, and the bytes that this left
  abbrev pub module_life : Head → Image → List Event → List Reply → Assembly L → World → Option Unanswered → List ℕ → Lived
  module_life found image events replies old last unanswered bytes = record {
    setup = setup_of L old.it;
    slot = found.newest.slot;
    closed = found.closed;
    image = image;
    events = events;
    replies = replies;
    first = world_of L old (opened_with found image);
    last = last;
    unanswered = unanswered;
    bytes = bytes;
  }

  -- A stop after the events ended a life, that of the machine which the module stood for. Here and below its calls had one gauge.
  pub record EndsAfterEvents (found : Head) (image : Image) (events : List Event) (replies : List Reply) (old new : Assembly L) (bytes : List ℕ) : Type 0 where
    pub last : Machine
    pub stands : ModuleStands L new.it new.device last
    pub run : Run (setup_of L old.it) events replies (world_of L old (opened_with found image)) (world_of L new last)
    pub lived : IsLived (module_life found image events replies old (world_of L new last) None bytes)

  -- A stop within one event more ended it, and left the event unanswered.
  pub record EndsWithinEvent (found : Head) (image : Image) (events : List Event) (replies : List Reply) (old new : Assembly L) (event : Event) (reply : Reply) (later : Assembly L)
      (bytes : List ℕ) : Type 0 where
    pub last : Machine
    pub next : Machine
    pub stands : ModuleStands L new.it new.device last
    pub run : Run (setup_of L old.it) events replies (world_of L old (opened_with found image)) (world_of L new last)
    pub lived : let unanswered : Unanswered = record { event = event; reply = reply; next = world_of L later next } in
        IsLived (module_life found image events replies old (world_of L new last) (Some unanswered) bytes)

  -- A stop among the events ended it: after those before the one that it left unanswered, or after all of them. Its replies are
  -- the first of all replies, and the events go on from its last moment to the module as it is now.
  pub record EndsAmongEvents (found : Head) (image : Image) (events : List Event) (replies : List Reply) (old new : Assembly L) (bytes : List ℕ) : Type 0 where
    pub front : List Event
    pub told : List Reply
    pub last : World
    pub unanswered : Option Unanswered
    pub rest : List Event
    pub untold : List Reply
    pub parts : events ≡ front ++ unanswered_event unanswered ++ rest
    pub told_are : replies ≡ told ++ untold
    pub lived : IsLived (module_life found image front told old last unanswered bytes)
    pub run : Run (setup_of L old.it) front told (world_of L old (opened_with found image)) last
    pub now : Machine
    pub stands : ModuleStands L new.it new.device now
    pub goes_on : Run (setup_of L old.it) (unanswered_event unanswered ++ rest) untold last (world_of L new now)

  -- a stop after the events of a module ends a life
  abbrev pub LivesEndAfterEvents : Type 0
  LivesEndAfterEvents =
      (found : Head) (image : Image) (events : List Event) (replies : List Reply) (old new : Assembly L) → HasAnswered found image events replies old new
      → (bytes : List ℕ) → MayLeave (present new.device) bytes → EndsAfterEvents found image events replies old new bytes

  -- a stop at any moment of one event more does
  abbrev pub LivesEndWithinEvent : Type 0
  LivesEndWithinEvent =
      (found : Head) (image : Image) (events : List Event) (replies : List Reply) (old new : Assembly L) → HasAnswered found image events replies old new
      → (event : Event) (reply : Reply) (later : Assembly L) → Answers L event reply new later
      → (bytes : List ℕ) → IsLeftAt (moments_since new.device later.device) bytes → EndsWithinEvent found image events replies old new event reply later bytes

  -- and so does one at any moment of the events
  abbrev pub LivesEndAnywhere : Type 0
  LivesEndAnywhere =
      (found : Head) (image : Image) (events : List Event) (replies : List Reply) (old new : Assembly L) → HasAnswered found image events replies old new
      → (bytes : List ℕ) → IsLeftAt (moments_since old.device new.device) bytes → EndsAmongEvents found image events replies old new bytes

  -- A module that began with this image has answered these events since, each with whatever gauge it was handed.
  pub record HasAnsweredByAny (found : Head) (image : Image) (events : List Event) (replies : List Reply) (old new : Assembly L) : Type 0 where
    pub begins : ModuleStands L old.it old.device (opened_with found image)
    pub last : Machine
    pub stands : ModuleStands L new.it new.device last
    pub run : AnyRun (setup_of L old.it) events replies (world_of L old (opened_with found image)) (world_of L new last)
    pub setup : setup_of L new.it ≡ setup_of L old.it

  -- A stop at some moment since then ended a life, which a restore survives.
  pub record SurvivesByAny (found : Head) (image : Image) (events : List Event) (replies : List Reply) (old : Assembly L) (last : World) (bytes : List ℕ) : Type 0 where
    pub stop : StopsAmong AnyGauge (setup_of L old.it) events replies (world_of L old (opened_with found image)) last bytes
    pub survived : IsSurvived (module_life found image stop.front stop.told old stop.last stop.unanswered bytes) []
