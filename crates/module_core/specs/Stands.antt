-- Which machine a module stands for.
use Rattle.std.specs.Prelude.{◌≡◌, ◌⊎◌, ◌<◌, ◌≤◌, ℕ, Bool, true, List, Option, Some, None}
use Rattle.std.specs.Option.{ForSome, option_map}
use Rattle.line_memory.specs.Memory.{IsMemory}
use Rattle.save_device.specs.Device.{DeviceState, present, StopsWithin}
use Rattle.slot_store.specs.Outcomes.{restored}
use Rattle.slot_store.specs.declared.plan.Step.{Step}
use Rattle.slot_store.specs.declared.plan.Step.TheVariants.{Header}
use Rattle.slot_store.specs.Slots.{HasSize}
use Rattle.slot_store.specs.Runs.{next_of}
use Rattle.arm_state.specs.declared.mode.Mode.TheVariants as modes
use Rattle.arm_state.specs.Modes.{has_ended}
use Rattle.energy_budget.specs.Gauge.{Gauge}
use Rattle.channel_port.specs.declared.port.ChannelPort.{Ghosts}
use Rattle.channel_set.specs.declared.set.ChannelSet.{ChannelSet}
use Rattle.channel_set.specs.Set.{NextCommand, shape_of, view_of}
use Rattle.channel_set.specs.Carrying.{CarriesAll, KeepsAll, WaitsFrom}
use Rattle.channel_set.specs.Issuing.{IssuesNone}
use Rattle.module_core.specs.declared.front.Front.{Front}
use Rattle.module_core.specs.declared.module.Module.{Module}
use Rattle.nv_machine.specs.declared.events.Event.{Event}
use Rattle.nv_machine.specs.declared.events.Event.TheVariants as events
use Rattle.nv_machine.specs.declared.events.Reply.{Reply}
use Rattle.nv_machine.specs.declared.events.Reply.TheVariants as replies
use Rattle.nv_machine.specs.declared.events.StepReply.TheVariants as step
use Rattle.arm_state.specs.declared.loss.Loss.TheVariants as loss
use Rattle.nv_machine.specs.State.{Setup, Machine, World, start_of_life, base_of_life, all_of, memory_of, newest_of, hold_of}
use Rattle.nv_machine.specs.Machine.{TakesReading}
use Rattle.nv_machine.specs.Guard.{IsGuarded}
use Rattle.nv_machine.specs.Headline.{RecoversAfterwards, Happens, MayPause, Pause, RunOf, pause_at, paused}
use Rattle.module_saves.specs.Saves.{StoreMoves}
use Rattle.module_saves.specs.Device.{Holds}
use Rattle.module_core.specs.Fronts.{FrontMatches, SameNumbers, setup_in}
use Rattle.module_core.specs.Draining.{EndsHoldAndReads}
use Rattle.module_core.specs.Issuing.{Issues}

-- the hold before this step: it ends behind the last page
abbrev pub hold_behind : Option Step → Option ℕ → Option ℕ
hold_behind (Some Header) hold = None
hold_behind next hold = hold

-- a module with its device and its gauge
pub record Assembly {K : Type 0} (L : Ghosts K) : Type 0 where
  pub it : Module K L
  pub device : DeviceState
  pub gauge : Gauge

abbrev pub assembly : {K : Type 0} {L : Ghosts K} → Module K L → DeviceState → Gauge → Assembly L
assembly it device gauge = record { it = it; device = device; gauge = gauge }

-- a moment between two events: the channels, and the machine with the device and the gauge
pub record Point {K : Type 0} (L : Ghosts K) : Type 0 where
  pub channels : ChannelSet K L
  pub world : World

abbrev pub paused_at : {K : Type 0} {L : Ghosts K} → Pause → Point L → Point L
paused_at pause point = record point { world = paused pause point.world }

-- Between two events there was at most a pause.
pub record RestsAt {K : Type 0} {L : Ghosts K} (old new : Point L) : Type 0 where
  pub may : MayPause old.world (pause_at new.world)
  pub is : new ≡ paused_at (pause_at new.world) old

-- how many writes the newest image holds after a reply: as many as the save of which it tells, or as before
abbrev pub saved_after : Reply → ℕ → ℕ
saved_after (replies.SaveStep (step.Saved generation count)) saved = count
saved_after (replies.Lose (loss.Saved generation count)) saved = count
saved_after reply saved = saved

-- a front holds that count behind a reply
abbrev pub CountsSaved : Reply → Front → Front → Type 0
CountsSaved reply old new = new.saved ≡ saved_after reply old.saved

module _ {K : Type 0} (L : Ghosts K) where
  abbrev pub setup_of : Module K L → Setup
  setup_of it = setup_in (shape_of L it.channels) it.front

  abbrev pub lines_of_module : Module K L → ℕ
  lines_of_module it = (shape_of L it.channels).lines

  -- The channels carry the life's writes, and what waits in them is what waits in the machine. From the hold of a save on all
  -- writes wait.
  pub record IsCarried (channels : ChannelSet K L) (m : Machine) : Type 0 where
    pub carries : CarriesAll L channels (base_of_life m.life) (start_of_life m.life) m.life.writes
    pub waits : (view_of L channels).waits ≡ m.waits
    pub hold : (view_of L channels).hold ≡ hold_of m.store.saving
    pub held : ForSome (hold_of m.store.saving) (λ n. WaitsFrom n (all_of m) m.waits.writes)

  -- the channels with another hold, which have issued nothing
  pub record ChangesHold (hold : Option ℕ) (old new : ChannelSet K L) : Type 0 where
    pub is : view_of L new ≡ record (view_of L old) { hold = hold }
    pub issued : IssuesNone L old new
    pub keeps : KeepsAll L old new

  -- No cut was made, and the newest image holds as many writes as the reply tells, or as before.
  pub record KeepsStored (reply : Reply) (old new : Module K L) : Type 0 where
    pub cut : new.front.terms.cut ≡ old.front.terms.cut
    pub saved : new.front.saved ≡ saved_after reply old.front.saved

  -- Nothing but the cut has changed: it stays, or moves forward to at most the end of the newest image.
  pub record IsCut (old new : Module K L) : Type 0 where
    pub terms : new.front.terms ≡ record old.front.terms { cut = new.front.terms.cut }
    pub rises : old.front.terms.cut ≤ new.front.terms.cut
    pub most : old.front.terms.cut < new.front.terms.cut → new.front.terms.cut ≤ old.front.saved
    pub accepted : new.front.accepted ≡ old.front.accepted
    pub persisted : new.front.persisted ≡ old.front.persisted
    pub saved : new.front.saved ≡ old.front.saved
    pub mode : new.front.mode ≡ old.front.mode
    pub reading : new.front.reading ≡ old.front.reading
    pub saves : new.front.saves ≡ old.front.saves
    pub channels : new.channels ≡ old.channels

  -- nothing but the hold has changed, which ends behind the last page
  pub record SameButHold (old new : Module K L) : Type 0 where
    pub front : new.front ≡ old.front
    pub channels : ChangesHold (hold_behind (option_map next_of old.front.saves.saving) (view_of L old.channels).hold) old.channels new.channels

  -- Mains were lost, after this reading: no hold lasts and all reads are lost, and nothing else but the saves has changed.
  pub record EndsMains (reading : ℕ) (old new : Module K L) : Type 0 where
    pub numbers : SameNumbers old.front new.front
    pub saved : new.front.saved ≡ old.front.saved
    pub shown : new.front.reading ≡ reading
    pub mode : new.front.mode ≡ modes.Closing
    pub channels : EndsHoldAndReads L old.channels new.channels

  -- the module, apart from the device
  pub record Matches (it : Module K L) (m : Machine) : Type 0 where
    pub front : FrontMatches it.front m
    pub memory : IsMemory (lines_of_module it) (memory_of m)
    pub carried : IsCarried it.channels m

  -- the module and its device
  pub record ModuleStands (it : Module K L) (device : DeviceState) (m : Machine) : Type 0 where
    pub matches : Matches it m
    pub holds : Holds (lines_of_module it) m.store it.front.saves.saving device
    pub guarded : IsGuarded m
    pub saved : it.front.saved ≡ (newest_of m).count

  -- The machine went on by this step to one that the module stands for. The device wasn't called.
  pub record MovesOn (Step : Machine → Machine → Type 0) (old new : Module K L) (m : Machine) : Type 0 where
    pub later : Machine
    pub step : Step m later
    pub matches : Matches new later
    pub moves : StoreMoves (lines_of_module old) m.store old.front.saves later.store new.front.saves

  -- whichever machine the module stood for goes on by it
  abbrev pub Follows : (Machine → Machine → Type 0) → Module K L → Module K L → Type 0
  Follows Step old new = (m : Machine) → Matches old m → MovesOn Step old new m

  -- a reading was taken, which begins the disarming where it turns
  abbrev pub FollowsReading : ℕ → Bool → Module K L → Module K L → Type 0
  FollowsReading reading turns old new = Follows (λ m n. TakesReading (setup_of old) reading turns m n) old new

  -- a channel of the module
  abbrev pub HasChannel : Module K L → ℕ → Type 0
  HasChannel it channel = channel < (setup_of it).shape.channels

  abbrev pub world_of : Assembly L → Machine → World
  world_of a m = record { machine = m; device = a.device; gauge = a.gauge }

  -- the moment of a module that stands for a machine, with its device and its gauge
  abbrev pub point_of : Assembly L → Machine → Point L
  point_of a m = record { channels = a.it.channels; world = world_of a m }

  -- A channel issues the command that comes next in it, with its clock. It answers none once mains were lost, and where it has
  -- nothing to issue.
  abbrev pub WorksWhereDue : Event → Reply → Point L → Type 0
  WorksWhereDue (events.Work channel) (replies.Work None) old = (has_ended old.world.machine.mode ≡ true) ⊎ NextCommand L old.channels channel None
  WorksWhereDue (events.Work channel) (replies.Work (Some done)) old = NextCommand L old.channels channel (Some done.command)
  WorksWhereDue event reply old = Unit {0}

  -- one event of a module
  pub record HappensAt (setup : Setup) (event : Event) (reply : Reply) (old new : Point L) : Type 0 where
    pub happens : Happens setup event reply old.world new.world
    pub works : WorksWhereDue event reply old
    pub issues : Issues L event reply old.channels new.channels

  -- one event, before which there may have been a pause
  pub record HappensNextAt (setup : Setup) (event : Event) (reply : Reply) (old new : Point L) : Type 0 where
    pub pause : Pause
    pub may : MayPause old.world pause
    pub happens : HappensAt setup event reply (paused_at pause old) new

  -- Events of a module in turn. There may be a pause before each of them and after the last one.
  abbrev pub RunAt : Setup → List Event → List Reply → Point L → Point L → Type 0
  RunAt setup = RunOf RestsAt (HappensNextAt setup)

  -- The theorem of one event. Whichever machine the module and its device stood for, they stand for one after it that the
  -- event may lead to with this reply; and what a stop at each moment leaves, and what an honest gauge is enough for, is as
  -- `Happens` says.
  abbrev pub Answers : Event → Reply → Assembly L → Assembly L → Type 0
  Answers event reply old new = (m : Machine) → ModuleStands old.it old.device m
      → (n : Machine) × ModuleStands new.it new.device n × HappensAt (setup_of old.it) event reply (point_of old m) (point_of new n)

  -- the same of an event that asks neither the device nor the gauge
  abbrev pub AnswersAlone : Event → Reply → Module K L → Module K L → Type 0
  AnswersAlone event reply old new = (device : DeviceState) (gauge : Gauge) → Answers event reply (assembly old device gauge) (assembly new device gauge)

  -- a device of the size that the module's images need
  abbrev pub HasDevice : Module K L → DeviceState → Type 0
  HasDevice it device = HasSize (lines_of_module it) device

  -- a work names a channel of the module
  abbrev pub IsForChannels : Module K L → Event → Type 0
  IsForChannels it (events.Work channel) = HasChannel it channel
  IsForChannels it event = Unit {0}

  -- A module and its device stood for a machine. After these events they stand for the last one of a run with these replies,
  -- and what the device's bytes restore to then, whatever a stop leaves of them, is one of the images that this machine says.
  pub record RunsTo (events : List Event) (replies : List Reply) (old : Assembly L) (m : Machine) (new : Assembly L) : Type 0 where
    pub last : Machine
    pub stands : ModuleStands new.it new.device last
    pub run : RunAt (setup_of old.it) events replies (point_of old m) (point_of new last)
    pub left : StopsWithin (λ bytes. RecoversAfterwards last (restored (setup_of old.it).shape.lines bytes)) (present new.device)

  -- The theorem on a list of events.
  abbrev pub AnswersAll : List Event → List Reply → Assembly L → Assembly L → Type 0
  AnswersAll events replies old new = (m : Machine) → ModuleStands old.it old.device m → RunsTo events replies old m new
