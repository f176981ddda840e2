-- A call of a whole module, to who holds all locks of its board.
use Rattle.std.specs.Prelude.{◌≡◌, All, Bool, true, false, List}
use Rattle.channel_locks.specs.declared.parts_name.PartsName.{Ghosts as PartsGhosts}
use Rattle.nv_machine.specs.declared.events.Event.{Event}
use Rattle.nv_machine.specs.declared.events.Event.TheVariants as events
use Rattle.nv_machine.specs.declared.events.Reply.{Reply}
use Rattle.nv_machine.specs.Headline.{Run}
use Rattle.nv_machine.specs.State.{Machine, Setup, World}
use Rattle.board_desk.specs.Calling.{Course, GoesAlong}
use Rattle.board_desk.specs.Desk.{DeskStands, DeskView, setup_at, world_at}

-- whether an event is a command of some channel, or a read that is collected
abbrev pub is_of_channels : Event → Bool
is_of_channels (events.Work channel) = true
is_of_channels (events.Collect ticket) = true
is_of_channels event = false

-- Commands of channels and reads that are collected lead from one world to the other.
pub record ComesOfChannels (setup : Setup) (old new : World) : Type 0 where
  pub events : List Event
  pub replies : List Reply
  pub own : All (λ event. is_of_channels event ≡ true) events
  pub run : Run setup events replies old new

module _ {B : Type 0} (P : PartsGhosts B) where
  -- the same setup, device and gauge
  pub record SameWorld (old new : DeskView) : Type 0 where
    pub setup : setup_at P new ≡ setup_at P old
    pub device : new.device ≡ old.device
    pub gauge : new.gauge ≡ old.gauge

  -- The channels' own events led from a machine, for which the desk stood, to one with which the call began; and the call led on to
  -- one for which the desk stands.
  pub record GoesWhole (course : Course) (old new : DeskView) (m : Machine) : Type 0 where
    pub seen : Machine
    pub comes : ComesOfChannels (setup_at P old) (world_at old m) (world_at old seen)
    pub later : Machine
    pub leads : GoesAlong course (setup_at P old) (world_at old seen) (world_at new later)
    pub stands : DeskStands P new later

  abbrev pub WholeAnswers : Course → DeskView → DeskView → Type 0
  WholeAnswers course old new = (m : Machine) → DeskStands P old m → ∥ GoesWhole course old new m ∥₁

  -- The call led from a machine, for which the desk stood, to one for which it stands now.
  pub record GoesCalled (course : Course) (old new : DeskView) (m : Machine) : Type 0 where
    pub later : Machine
    pub leads : GoesAlong course (setup_at P old) (world_at old m) (world_at new later)
    pub stands : DeskStands P new later

  abbrev pub CallAnswers : Course → DeskView → DeskView → Type 0
  CallAnswers course old new = (m : Machine) → DeskStands P old m → ∥ GoesCalled course old new m ∥₁

  -- the channels' own events led to where the desk stands now
  pub record GoesSettled (old new : DeskView) (m : Machine) : Type 0 where
    pub seen : Machine
    pub comes : ComesOfChannels (setup_at P old) (world_at old m) (world_at old seen)
    pub stands : DeskStands P new seen

  abbrev pub SettlesAll : DeskView → DeskView → Type 0
  SettlesAll old new = (m : Machine) → DeskStands P old m → ∥ GoesSettled old new m ∥₁
