-- What becomes of a desk with the part of one channel, whichever machine it stood for.
use Rattle.std.specs.Prelude.{◌≡◌, ◌≢◌, ◌<◌, ◌≤◌, ℕ, List, [], slice_index_or, Option, Some, None}
use Rattle.channel_log.specs.Log.{IsLogOf, LogNote, log_tells}
use Rattle.channel_locks.specs.PortMakes.{PortMake}
use Rattle.channel_locks.specs.declared.parts_name.PartsName.{Ghosts as PartsGhosts}
use Rattle.channel_locks.specs.declared.part.Part.{Part}
use Rattle.channel_locks.specs.Stands.{returned_of}
use Rattle.channel_port.specs.Answers.{IsGot}
use Rattle.channel_port.specs.View.{with_write}
use Rattle.channel_port.specs.declared.answers.Got.{Got}
use Rattle.channel_port.specs.declared.answers.Got.TheVariants.{Now, Later}
use Rattle.channel_port.specs.declared.port.ChannelPort.{Ghosts}
use Rattle.nv_machine.specs.declared.events.Event.{Event}
use Rattle.nv_machine.specs.declared.events.Reply.{Reply}
use Rattle.nv_machine.specs.Headline.{Happens}
use Rattle.nv_machine.specs.State.{Machine}
use Rattle.board_hosts.specs.declared.host.GotAt.{GotAt}
use Rattle.split_module.specs.OwnEvents.{ComesOfOwn}
use Rattle.board_desk.specs.Desk.{DeskStands, DeskView, setup_at, world_at}

module _ {B : Type 0} (P : PartsGhosts B) where
  -- The channel's own events led from a machine, for which the desk stood, to one for which it stands.
  pub record SeesOwn (channel : ℕ) (old new : DeskView) (m : Machine) : Type 0 where
    pub seen : Machine
    pub comes : ComesOfOwn (setup_at P old) channel (world_at old m) (world_at old seen)
    pub stands : DeskStands P new seen

  abbrev pub Settles : ℕ → DeskView → DeskView → Type 0
  Settles channel old new = (m : Machine) → DeskStands P old m → ∥ SeesOwn channel old new m ∥₁

  -- Behind the channel's own events this one had this reply, and led to a machine for which the desk stands.
  pub record GoesOnWith (channel : ℕ) (event : Event) (reply : Reply) (old new : DeskView) (m : Machine) : Type 0 where
    pub seen : Machine
    pub comes : ComesOfOwn (setup_at P old) channel (world_at old m) (world_at old seen)
    pub later : Machine
    pub happens : Happens (setup_at P old) event reply (world_at old seen) (world_at new later)
    pub stands : DeskStands P new later

  abbrev pub DeskAnswers : ℕ → Event → Reply → DeskView → DeskView → Type 0
  DeskAnswers channel event reply old new = (m : Machine) → DeskStands P old m → ∥ GoesOnWith channel event reply old new m ∥₁

-- this channel is asked for a line: its own, or the first one where there is no such line
pub record IsAskedFor (make : PortMake) (line channel : ℕ) : Type 0 where
  pub here : line < make.lines → (make.place_of line).channel ≡ channel
  pub beyond : make.lines ≤ line → channel ≡ 0

-- what is known of the other channels has not changed
abbrev pub SameElsewhere : ℕ → List (List LogNote) → List (List LogNote) → Type 0
SameElsewhere channel old new = (other : ℕ) → other ≢ channel → slice_index_or new other [] ≡ slice_index_or old other []

module _ {K : Type 0} (L : Ghosts K) where
  -- No credit of the part is a returned one, and its log, which the desk knows, tells what waits.
  pub record IsSettledPart (logs : List (List LogNote)) (part : Part K L) (log : List LogNote) : Type 0 where
    pub taken : returned_of L part ≡ 0
    pub waits : (log_tells log).waits ≡ (L.view part.port).waits
    pub agreed : IsLogOf logs part.channel log

  -- the same of what lies behind the channel's lock, where the board has the channel
  abbrev pub HasSettled : List (List LogNote) → Option (Part K L) → List LogNote → Type 0
  HasSettled logs None log = Unit {0}
  HasSettled logs (Some part) log = IsSettledPart logs part log

  -- of the part only the credits have changed
  pub record SameButCredits (old new : Part K L) : Type 0 where
    pub channel : new.channel ≡ old.channel
    pub port : new.port ≡ old.port
    pub ended : new.ended ≡ old.ended

  abbrev pub SettlesPart : Option (Part K L) → Option (Part K L) → Type 0
  SettlesPart None new = new ≡ None
  SettlesPart (Some old) new = (later : Part K L) × (new ≡ Some later) × SameButCredits old later

  -- Contracts see of the port what they saw before, and it has issued no command since.
  pub record KeepsPort (old new : Part K L) : Type 0 where
    pub view : L.view new.port ≡ L.view old.port
    pub issued : L.issued new.port ≡ L.issued old.port

  -- A write of this number waits in the port now. Nothing else of it has changed, its open reads too are those that they were, and it
  -- has issued no command.
  pub record PutsWrite (number : ℕ) (old new : Part K L) : Type 0 where
    pub view : L.view new.port ≡ with_write number (L.view old.port)
    pub issued : L.issued new.port ≡ L.issued old.port

  -- A line was read of the port of this channel: at once, which leaves no read open, or by one ticket that was never given before.
  -- Nothing else of it has changed, and it has issued no command.
  pub record ReadsLine (line channel : ℕ) (told : GotAt) (old new : Part K L) : Type 0 where
    pub view : L.view new.port ≡ record (L.view old.port) { waits = (L.view new.port).waits }
    pub got : ∥ ((bytes : List ℕ) × IsGot bytes line told.at channel told.got (L.view old.port).waits (L.view new.port).waits) ∥₁
    pub issued : L.issued new.port ≡ L.issued old.port

  -- A channel's lock lent a part with which this was done.
  abbrev pub DoneWithLent : (Part K L → Part K L → Type 0) → Option (Part K L) → Option (Part K L) → Type 0
  DoneWithLent Does None new = ⊥
  DoneWithLent Does (Some old) new = (later : Part K L) × (new ≡ Some later) × Does old later

-- the ticket of an answer is this channel's, where it has one
abbrev pub IsTicketOf : ℕ → Got → Type 0
IsTicketOf channel (Now bytes) = Unit {0}
IsTicketOf channel (Later ticket) = ticket.channel ≡ channel
