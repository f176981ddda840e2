-- A module in pieces, and what the pieces and the module stand for.
use Rattle.std.specs.Prelude.{◌≡◌, ◌≤◌, ℕ, List, [], length, slice_get, slice_index_or, false, Some}
use Rattle.arm_state.specs.Modes.{has_ended}
use Rattle.channel_log.specs.Log.{LogNote, Told, log_tells}
use Rattle.channel_locks.specs.Stands.{PortStands}
use Rattle.channel_port.specs.Shape.{IsShape, Shape}
use Rattle.channel_port.specs.Waits.{AllBelow, nothing}
use Rattle.channel_port.specs.declared.port.ChannelPort.{Ghosts}
use Rattle.channel_port.specs.declared.stage.Stage.TheVariants.{OnMains}
use Rattle.channel_set.specs.Ports.{ArePorts, shape_with, waits_in}
use Rattle.channel_set.specs.Set.{shape_of, view_of}
use Rattle.energy_budget.specs.Costs.{AreReckonedFor}
use Rattle.line_memory.specs.Memory.{IsMemory}
use Rattle.module_core.specs.Stands.{Matches, setup_of}
use Rattle.module_core.specs.declared.module.Module.{Module}
use Rattle.nv_machine.specs.Guard.{IsGuarded}
use Rattle.nv_machine.specs.State.{Machine, base_of_life}
use Rattle.split_module.specs.Telling.{AreLogsOf, IsToldOf}
use Rattle.split_module.specs.Lending.{SplitStands}
use Rattle.split_module.specs.declared.gathering.SplitModule.{SplitModule}

module _ {K : Type 0} (L : Ghosts K) where
  -- the shape of the channels that the pieces make
  abbrev pub shape_in : SplitModule K → Shape
  shape_in pieces = shape_with L pieces.terms pieces.front.costs pieces.ports.items

  -- The pieces are the module's: the same front, ports, terms and costs; and as many credits are out as writes wait.
  pub record IsMadeOf (whole : Module K L) (pieces : SplitModule K) : Type 0 where
    pub front : pieces.front.front ≡ whole.front
    pub ports : pieces.ports ≡ whole.channels.ports
    pub terms : pieces.terms ≡ whole.channels.terms
    pub costs : pieces.front.costs ≡ whole.channels.costs
    pub lines : pieces.front.lines ≡ (shape_of L whole.channels).lines
    pub out : pieces.front.out ≡ length (view_of L whole.channels).waits.writes

  -- The pieces fit together: ports side by side, and a front that has their numbers and accepted what waits in them. On mains they
  -- are on mains too.
  pub record FitAsModule (pieces : SplitModule K) : Type 0 where
    pub are_ports : ArePorts L pieces.terms pieces.ports.items
    pub shaped : IsShape (shape_in pieces)
    pub reckoned : AreReckonedFor pieces.terms.checked pieces.front.costs
    pub lines : pieces.front.lines ≡ pieces.terms.lines
    pub out : pieces.front.out ≡ length (waits_in L pieces.ports.items).writes
    pub below : AllBelow pieces.front.front.accepted (waits_in L pieces.ports.items).writes
    pub mains : has_ended pieces.front.front.mode ≡ false
        → (number : ℕ) (port : K) → slice_get pieces.ports.items number ≡ Some port → (L.view port).stage ≡ OnMains

  -- Whichever machine the module stood for, the front stands for it by logs that tell of it, and each port stands for what is told of
  -- its channel, where it is told what waits in it.
  pub record StandsSplit (whole : Module K L) (pieces : SplitModule K) : Type 0 where
    pub front : (m : Machine) (logs : List (List LogNote)) → Matches L whole m → AreLogsOf (setup_of L whole) m logs
        → SplitStands (shape_in pieces) logs pieces.front m
    pub each : (m : Machine) (number : ℕ) (port : K) (told : Told) → Matches L whole m → slice_get pieces.ports.items number ≡ Some port
        → IsToldOf (setup_of L whole) m number told → told.waits ≡ (L.view port).waits → PortStands L port number (base_of_life m.life) told

  -- Each port stands for the log of its channel, which tells what waits in it; and nothing is told to wait where there is no port.
  pub record ArePortsOf (base : List (List ℕ)) (logs : List (List LogNote)) (ports : List K) : Type 0 where
    pub stand : (number : ℕ) (port : K) → slice_get ports number ≡ Some port → PortStands L port number base (log_tells (slice_index_or logs number []))
    pub told : (number : ℕ) (port : K) → slice_get ports number ≡ Some port → (log_tells (slice_index_or logs number [])).waits ≡ (L.view port).waits
    pub none : (number : ℕ) → length ports ≤ number → (log_tells (slice_index_or logs number [])).waits ≡ nothing

  -- Whichever machine the front stood for, by these logs, the module stands for it, where the ports are those of the logs.
  abbrev pub StandsGathered : SplitModule K → Module K L → Type 0
  StandsGathered pieces whole = (m : Machine) (logs : List (List LogNote)) → SplitStands (shape_in pieces) logs pieces.front m
      → ArePortsOf (base_of_life m.life) logs pieces.ports.items → IsMemory pieces.front.lines (base_of_life m.life) → IsGuarded m → Matches L whole m
