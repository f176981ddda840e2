-- A loss of mains of a whole board, whose channels are drained at once.
use Rattle.std.specs.Prelude.{◌≡◌, List, length}
use Rattle.arm_state.specs.Modes.{has_ended}
use Rattle.arm_state.specs.declared.loss.Loss.{Loss}
use Rattle.arm_state.specs.declared.loss.Loss.TheVariants as loss
use Rattle.channel_locks.specs.declared.parts_name.PartsName.{Ghosts as PartsGhosts}
use Rattle.channel_log.specs.Log.{LogNote}
use Rattle.channel_port.specs.Draining.{at_once}
use Rattle.channel_port.specs.declared.port.ChannelPort.{Ghosts}
use Rattle.channel_set.specs.declared.set.ChannelSet.{ChannelSet}
use Rattle.energy_budget.specs.declared.energy.Energy.{Ghosts as GaugeGhosts}
use Rattle.module_core.specs.Draining.{AreDrainedFrom}
use Rattle.nv_machine.specs.Losses.{LoseStep}
use Rattle.nv_machine.specs.State.{Machine}
use Rattle.save_device.specs.declared.device.SaveDevice.{Ghosts as DeviceGhosts}
use Rattle.split_module.specs.Lending.{SplitStands}
use Rattle.worker_turns.specs.Waiting.{AreAwaited}
use Rattle.worker_turns.specs.declared.Gate.{Ghosts as GateGhosts}
use Rattle.board_desk.specs.Asking.{pieces_with}
use Rattle.board_desk.specs.Desk.{DeskStands, DeskView, setup_at, shape_at, world_at}
use Rattle.board_desk.specs.Loans.{AreRestated}
use Rattle.board_desk.specs.Pieces.{ArePiecesKept}
use Rattle.board_desk.specs.Whole.{ComesOfChannels}
use Rattle.board_desk.specs.declared.pieces.RecordedPieces.{RecordedPieces}

-- so it is where a loss of mains begins no drain: mains were lost before, or nothing is to be saved
abbrev pub WhereUndrained : Loss → Type 0 → Type 0
WhereUndrained loss.Closed P = P
WhereUndrained loss.Unsaved P = P
WhereUndrained lost P = Unit {0}

module _ {K : Type 0} (L : Ghosts K) where
  -- The ports were the channels of a module that lost its mains, and each of them, also one on which nothing waited, is as its own
  -- drain leaves it.
  pub record AreDrained (old new : List K) : Type 0 where
    pub before : ChannelSet K L
    pub after : ChannelSet K L
    pub old_are : before.ports.items ≡ old
    pub new_are : after.ports.items ≡ new
    pub drained : AreDrainedFrom L before after

  -- The gate was asked before the drain of each port, by its number.
  pub record DrainsBehind {G : Type 0} (H : GateGhosts G) (gate : G) (old new : List K) : Type 0 where
    pub asked : AreAwaited H gate 0 (length old)
    pub drained : AreDrained old new

module _ {B : Type 0} (P : PartsGhosts B) where
  -- A loss of mains, whose drains are all paid for before the first of them, led from this machine to one for which the desk's front
  -- stands.
  pub record LostAtOnce (lost : Loss) (old new : DeskView) (m : Machine) : Type 0 where
    pub later : Machine
    pub loses : LoseStep at_once (setup_at P old) lost (world_at old m) (world_at new later)
    pub stands : SplitStands (shape_at P new) new.logs new.split later

  -- The same behind the channels' own events.
  pub record LostWhole (lost : Loss) (old new : DeskView) (m : Machine) : Type 0 where
    pub seen : Machine
    pub comes : ComesOfChannels (setup_at P old) (world_at old m) (world_at old seen)
    pub led : LostAtOnce lost old new seen

  abbrev pub LosesWhole : Loss → DeskView → DeskView → Type 0
  LosesWhole lost old new = (m : Machine) → DeskStands P old m → ∥ LostWhole lost old new m ∥₁

module _ {K B : Type 0} (L : Ghosts K) (P : PartsGhosts B) where
  -- so it is of whichever machine the pieces stood for, once of each channel what is now is told
  abbrev pub LosesRestated : Loss → DeskView → DeskView → List K → Type 0
  LosesRestated lost old new ports = (m : Machine) → DeskStands P old m
      → (logs : List (List LogNote)) → AreRestated L new.terms.hold (has_ended new.split.front.mode) ports old.logs logs
      → ∥ LostAtOnce P lost old (record new { logs = logs }) m ∥₁

module _ {K D E B : Type 0} (L : Ghosts K) (M : DeviceGhosts D) (N : GaugeGhosts E) (P : PartsGhosts B) where
  abbrev pub LedAtOnce : Loss → RecordedPieces K D E B → RecordedPieces K D E B → Type 0
  LedAtOnce lost old new = (logs : List (List LogNote)) → ArePiecesKept L P (pieces_with L M N P old logs) old.pieces.ports.items
      → LosesRestated L P lost (pieces_with L M N P old logs) (pieces_with L M N P new logs) new.pieces.ports.items
