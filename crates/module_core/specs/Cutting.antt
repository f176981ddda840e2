-- Events that find the stored writes cut.
use Rattle.std.specs.Prelude.{◌≡◌, List}
use Rattle.channel_port.specs.declared.port.ChannelPort.{Ghosts}
use Rattle.save_device.specs.Device.{present, StopsWithin}
use Rattle.slot_store.specs.Outcomes.{restored}
use Rattle.nv_machine.specs.declared.events.Event.{Event}
use Rattle.nv_machine.specs.declared.events.Reply.{Reply}
use Rattle.nv_machine.specs.Headline.{RecoversAfterwards, RunOf}
use Rattle.nv_machine.specs.State.{Machine, Setup, newest_of}
use Rattle.module_core.specs.Stands.{Assembly, HappensNextAt, ModuleStands, Point, RestsAt, point_of, setup_of}

module _ {K : Type 0} (L : Ghosts K) where
  -- one event, before which the stored writes were cut to the end of the newest image
  pub record HappensCutAt (setup : Setup) (event : Event) (reply : Reply) (old new : Point L) : Type 0 where
    pub next : HappensNextAt L setup event reply old new
    pub cut : next.pause.cut ≡ (newest_of old.world.machine).count

  -- A module and its device stood for a machine, as at `RunsTo`, and each of the events found its stored writes cut so.
  pub record RunsCut (events : List Event) (replies : List Reply) (old : Assembly L) (m : Machine) (new : Assembly L) : Type 0 where
    pub last : Machine
    pub stands : ModuleStands L new.it new.device last
    pub run : RunOf RestsAt (HappensCutAt (setup_of L old.it)) events replies (point_of L old m) (point_of L new last)
    pub left : StopsWithin (λ bytes. RecoversAfterwards last (restored (setup_of L old.it).shape.lines bytes)) (present new.device)

  -- the theorem on a list of events with cuts
  abbrev pub AnswersCut : List Event → List Reply → Assembly L → Assembly L → Type 0
  AnswersCut events replies old new = (m : Machine) → ModuleStands L old.it old.device m → RunsCut events replies old m new
