-- What lies behind the board's lock, and for which machine it stands.
use Rattle.std.specs.Prelude.{◌≡◌, ℕ, ◌≤◌, All, List, [], length, slice_index_or}
use Rattle.line_memory.specs.History.{Recorded, recorded}
use Rattle.save_device.specs.Device.{DeviceState}
use Rattle.energy_budget.specs.Gauge.{Gauge}
use Rattle.energy_budget.specs.declared.costs.Costs.{Costs}
use Rattle.channel_port.specs.Shape.{Shape}
use Rattle.channel_log.specs.Log.{LogNote, credits_of, log_tells}
use Rattle.channel_port.specs.Waits.{nothing}
use Rattle.channel_set.specs.declared.terms.PortTerms.{PortTerms}
use Rattle.channel_locks.specs.declared.parts_name.PartsName.{Ghosts as PartsGhosts}
use Rattle.nv_machine.specs.Guard.{IsGuarded}
use Rattle.nv_machine.specs.State.{Machine, Setup, World, base_of_life, hold_of, newest_of, stored_base, stored_writes}
use Rattle.module_saves.specs.Device.{Holds}
use Rattle.module_core.specs.Fronts.{setup_in}
use Rattle.split_module.specs.declared.front.SplitFront.{SplitFront}
use Rattle.split_module.specs.Lending.{SplitStands}
use Rattle.nv_machine.specs.Lives.{LivedUntil}

-- the front, what the ports have in common, what is known of the device and of the gauge, the record of the life, and the log of
-- each channel
pub record DeskView : Type 0 where
  pub split : SplitFront
  pub terms : PortTerms
  pub device : DeviceState
  pub gauge : Gauge
  pub history : Recorded
  pub logs : List (List LogNote)

abbrev pub desk_view : SplitFront → PortTerms → DeviceState → Gauge → Recorded → List (List LogNote) → DeskView
desk_view split terms device gauge history logs = record { split = split; terms = terms; device = device; gauge = gauge; history = history; logs = logs }

-- the moment of a desk that stands for a machine
abbrev pub world_at : DeskView → Machine → World
world_at desk m = record { machine = m; device = desk.device; gauge = desk.gauge }

-- There are eight logs. On each channel at most 64 credits are out, and nothing waits on one that the board lacks.
pub record AreBoardLogs (ports : ℕ) (logs : List (List LogNote)) : Type 0 where
  pub eight : length logs ≡ 8
  pub few : All (λ log. credits_of log ≤ 64) logs
  pub none : (channel : ℕ) → ports ≤ channel → (log_tells (slice_index_or logs channel [])).waits ≡ nothing

module _ {B : Type 0} (P : PartsGhosts B) where
  -- the shape of the board's channels, with what a closing save of them costs
  abbrev pub shape_named : Costs → Shape
  shape_named costs = record {
    lines = P.make.lines;
    channels = P.ports;
    channel_of = λ line. (P.make.place_of line).channel;
    depth = P.make.depth;
    reads = P.make.most_reads;
    costs = costs;
  }

  abbrev pub shape_at : DeskView → Shape
  shape_at desk = shape_named desk.split.costs

  abbrev pub setup_at : DeskView → Setup
  setup_at desk = setup_in (shape_at desk) desk.split.front

  -- The desk stands for this machine: its front does, by the logs of the channels; the ports hold back what its save is to have;
  -- the device holds its store; what is stored of its life is recorded; and a life so far, which began with the board's memory,
  -- leads here.
  pub record DeskStands (desk : DeskView) (m : Machine) : Type 0 where
    pub stands : SplitStands (shape_at desk) desk.logs desk.split m
    pub logs_are : AreBoardLogs P.ports desk.logs
    pub hold : desk.terms.hold ≡ hold_of m.store.saving
    pub holds : Holds P.make.lines m.store desk.split.front.saves.saving desk.device
    pub guarded : IsGuarded m
    pub saved : desk.split.front.saved ≡ (newest_of m).count
    pub stored : desk.history ≡ recorded (stored_base m) m.cut (stored_writes m) desk.history.room
    pub base : base_of_life m.life ≡ P.base
    pub lived : LivedUntil (setup_at desk) (world_at desk m)
