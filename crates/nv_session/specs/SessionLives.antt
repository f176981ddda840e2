-- The life of a session as one of the headline.
use Rattle.std.specs.Prelude.{◌≡◌, ℕ, List, [], ◌++◌, Some}
use Rattle.save_image.specs.Image.{Image}
use Rattle.channel_port.specs.declared.port.ChannelPort.{Ghosts}
use Rattle.nv_machine.specs.declared.events.Event.{Event}
use Rattle.nv_machine.specs.declared.events.Reply.{Reply}
use Rattle.nv_machine.specs.State.{Machine}
use Rattle.module_core.specs.declared.module.Module.{Module}
use Rattle.slot_store.specs.declared.head.Head.{Head}
use Rattle.module_core.specs.Stands.{Assembly, assembly}
use Rattle.nv_machine.specs.Lives.{moments_since, IsLeftAt}
use Rattle.nv_machine.specs.Survival.{IsSurvived}
use Rattle.module_core.specs.ModuleLives.{EndsAmongEvents, HasAnswered, module_life}
use Rattle.nv_session.specs.Coming.{Tale}
use Rattle.nv_session.specs.Living.{SessionAt}

module _ {K : Type 0} (L : Ghosts K) where
  -- The life that runs began as `first`, with this image, and has answered these events since.
  pub record HasLived (found : Head) (image : Image) (events : List Event) (replies : List Reply) (first : Assembly L) (at : SessionAt L) : Type 0 where
    pub it : Module K L
    pub runs : at.life ≡ Some it
    pub answered : HasAnswered L found image events replies first (assembly it at.device at.gauge)

  -- It has answered further events, of which this is told.
  pub record HasLivedOn (Told : Tale) (found : Head) (image : Image) (events : List Event) (replies : List Reply) (first : Assembly L) (at : SessionAt L) : Type 0 where
    pub more : List Event
    pub others : List Reply
    pub before : Machine
    pub after : Machine
    pub told : Told more others before after
    pub lived : HasLived found image (events ++ more) (replies ++ others) first at

  -- A stop left these bytes at some moment since the life began, within a call too. It ended a life, which a restore survives.
  pub record SurvivesStop (found : Head) (image : Image) (events : List Event) (replies : List Reply) (first now : Assembly L) (bytes : List ℕ) : Type 0 where
    pub ends : EndsAmongEvents L found image events replies first now bytes
    pub survived : IsSurvived (module_life L found image ends.front ends.told first ends.last ends.unanswered bytes) []

  -- whatever a stop at one of these moments leaves
  abbrev pub SurvivesAnyStop : Head → Image → List Event → List Reply → Assembly L → SessionAt L → Type 0
  SurvivesAnyStop found image events replies first at =
      (lived : HasLived found image events replies first at) (bytes : List ℕ) → IsLeftAt (moments_since first.device at.device) bytes
      → SurvivesStop found image events replies first (assembly lived.it at.device at.gauge) bytes
