-- What a life with its device and its gauge keeps, and how it goes on by calls.
use Rattle.std.specs.Prelude.{◌≡◌, ℕ, zero, suc, ◌+◌, List, Option, Some, None}
use Rattle.channel_port.specs.declared.answers.Done.{Done}
use Rattle.channel_port.specs.declared.port.ChannelPort.{Ghosts}
use Rattle.nv_machine.specs.declared.events.Event.TheVariants as event
use Rattle.nv_machine.specs.declared.events.Reply.TheVariants as reply
use Rattle.nv_machine.specs.Lives.{IsLeftAt, moments_since}
use Rattle.nv_machine.specs.State.{Setup}
use Rattle.nv_profile.specs.declared.profile.Profile.{Profile}
use Rattle.module_core.specs.ModuleLives.{LifeSoFar}
use Rattle.module_core.specs.Stands.{Assembly, HasDevice, setup_of}
use Rattle.nv_session.specs.Coming.{Comes, IsOneEvent, Tale}
use Rattle.nv_session.specs.Living.{HasLife, IsCutToSaved, IsShapeFor}
use Rattle.nv_session.specs.SessionLives.{SurvivesStop}

-- how many commands there were, of none or one
abbrev pub count_of : Option Done → ℕ
count_of None = 0
count_of (Some done) = 1

module _ {K : Type 0} (L : Ghosts K) where
  -- A module of the profile's lines and channels, with a device for images of it. It has answered events since it was opened, with this
  -- device and this gauge; its stored writes are cut.
  pub record IsAlive (profile : Profile) (now : Assembly L) : Type 0 where
    pub fits : IsShapeFor profile (setup_of L now.it).shape
    pub size : HasDevice L now.it now.device
    pub lives : HasLife L now
    pub cut : IsCutToSaved L now.it

  -- a life goes on by events of which this is told, and its setup stays
  pub record GoesOn (Told : Setup → Tale) (old new : Assembly L) : Type 0 where
    pub comes : Comes L (Told (setup_of L old.it)) old new
    pub setup : setup_of L new.it ≡ setup_of L old.it

  -- one work on each of so many channels, in turn: so many commands were issued
  abbrev pub WorksUpTo : ℕ → ℕ → Assembly L → Assembly L → Type 0
  WorksUpTo zero issued old new = (issued ≡ 0) × (new ≡ old)
  WorksUpTo (suc channel) issued old new =
      (before : ℕ) × (mid : Assembly L) × (done : Option Done) × WorksUpTo channel before old mid
      × GoesOn (λ setup. IsOneEvent (event.Work channel) (reply.Work done)) mid new × (issued ≡ before + count_of done)

  -- whatever a stop leaves of the device, at any moment since the life began, survives
  pub record SurvivesAnyStop (now : Assembly L) : Type 0 where
    pub life : LifeSoFar L now
    pub survives : (bytes : List ℕ) → IsLeftAt (moments_since life.first.device now.device) bytes
        → SurvivesStop L life.found life.image life.events life.replies life.first now bytes
