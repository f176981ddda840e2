-- What a module with its device and its gauge has lived through.
use Rattle.std.specs.Prelude.{◌≡◌, ℕ, Bool, List, None}
use Rattle.save_image.specs.Image.{Image}
use Rattle.save_device.specs.Device.{present, faults_of, StopsWithin}
use Rattle.save_device.specs.declared.device.SaveDevice.{Ghosts as DeviceGhosts}
use Rattle.slot_store.specs.declared.slots.Slot.{Slot}
use Rattle.slot_store.specs.Outcomes.{Found, restored}
use Rattle.energy_budget.specs.Charging.{RisesTo}
use Rattle.energy_budget.specs.Gauge.{IsHonestThrough}
use Rattle.energy_budget.specs.declared.energy.Energy.{Ghosts as GaugeGhosts}
use Rattle.channel_port.specs.declared.port.ChannelPort.{Ghosts}
use Rattle.nv_machine.specs.declared.events.Event.{Event}
use Rattle.nv_machine.specs.declared.events.Reply.{Reply}
use Rattle.nv_machine.specs.Headline.{IsBacked, Run}
use Rattle.nv_machine.specs.Honesty.{IsSparedAlong, SavesAllAlong}
use Rattle.nv_machine.specs.Lives.{IsLived, Lived, LivedUntil}
use Rattle.nv_machine.specs.Opening.{new_life}
use Rattle.nv_machine.specs.State.{Machine, Setup, World}
use Rattle.nv_machine.specs.StoppedRuns.{SurvivesStops}
use Rattle.module_core.specs.Stands.{Assembly, ModuleStands, assembly, setup_of, world_of}
use Rattle.board_hosts.specs.declared.recorded_module.RecordedModule.{RecordedModule}

module _ (setup : Setup) (now : World) (so : LivedUntil setup now) where
  -- the life that ends where a stop leaves these bytes now, with no event unanswered
  abbrev pub life_until : List ℕ → Lived
  life_until bytes = record {
    setup = setup;
    slot = so.slot;
    closed = so.closed;
    image = so.image;
    events = so.events;
    replies = so.replies;
    first = so.first;
    last = now;
    unanswered = None;
    bytes = bytes;
  }

  -- Since the life began the gauge has counted no fault, its leak isn't above that of the costs, and the device was spared: in a loss it
  -- failed no more often than its calls may be made again, and no call was made of a save that is stranded.
  pub record HasBeenHonest : Type 0 where
    pub gauge : IsHonestThrough setup.shape.costs.numbers.leak so.first.gauge now.gauge
    pub spared : IsSparedAlong setup so.events so.replies so.first now so.run

-- A life leads here, and whatever a stop leaves now ends it. Where the gauge has been honest since it began, and the device was spared,
-- the gauge backs what was acknowledged, and a loss of mains while acknowledged writes were to be saved has saved all that were
-- accepted. A device that has counted no fault since was spared.
pub record IsInLife (setup : Setup) (now : World) : Type 0 where
  pub so : LivedUntil setup now
  pub ends : StopsWithin (λ bytes. IsLived (life_until setup now so bytes)) (present now.device)
  pub backed : HasBeenHonest setup now so → IsBacked setup now.machine now.gauge
  pub saves : HasBeenHonest setup now so → SavesAllAlong setup so.events so.replies so.first now so.run
  pub faultless : faults_of now.device ≡ faults_of so.first.device → IsSparedAlong setup so.events so.replies so.first now so.run

module _ {K D E : Type 0} (L : Ghosts K) (M : DeviceGhosts D) (N : GaugeGhosts E) where
  -- the module, and what is known of its device and of its gauge
  abbrev pub assembly_of : RecordedModule K D E L → Assembly L
  assembly_of it = assembly it.running (M.state it.device) (N.gauge it.energy)

  -- the world in which they stand for a machine
  abbrev pub world_for : RecordedModule K D E L → Machine → World
  world_for it m = world_of L (assembly_of it) m

  -- Module and device stand for a machine, and a life leads to it. A stop at any moment since it began, within a call or a device
  -- write too, ends a life that a restore survives, behind whichever lives left what it was opened with.
  pub record StopsSurvive (it : RecordedModule K D E L) : Type 0 where
    pub machine : Machine
    pub stands : ModuleStands L it.running (M.state it.device) machine
    pub so : LivedUntil (setup_of L it.running) (world_for it machine)
    pub survives : SurvivesStops RisesTo (setup_of L it.running) (world_for it machine) so
