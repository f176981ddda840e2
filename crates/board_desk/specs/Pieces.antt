-- A module in pieces with its record, and a call of it.
use Rattle.std.specs.Prelude.{◌≡◌, ◌≤◌, List, length}
use Rattle.arm_state.specs.Modes.{has_ended}
use Rattle.channel_locks.specs.declared.parts_name.PartsName.{Ghosts as PartsGhosts}
use Rattle.channel_log.specs.Log.{LogNote}
use Rattle.channel_port.specs.Shape.{IsShape}
use Rattle.channel_port.specs.declared.port.ChannelPort.{Ghosts}
use Rattle.energy_budget.specs.Costs.{AreReckonedFor}
use Rattle.line_memory.specs.Memory.{IsMemory}
use Rattle.nv_machine.specs.State.{Machine}
use Rattle.board_desk.specs.Calling.{Course, GoesAlong}
use Rattle.board_desk.specs.Desk.{DeskStands, DeskView, setup_at, shape_at, world_at}
use Rattle.board_desk.specs.Kept.{AreTermsOf}
use Rattle.board_desk.specs.Loans.{AllComeBack, AreRestated, EndStays, HaveLent}

module _ {K B : Type 0} (L : Ghosts K) (P : PartsGhosts B) where
  -- the pieces of a board's module: what is kept behind the board's lock is so of them, and all channels have lent their ports
  pub record ArePiecesKept (desk : DeskView) (ports : List K) : Type 0 where
    pub shape : IsShape (shape_at P desk)
    pub terms : AreTermsOf P.make desk.terms
    pub reckoned : AreReckonedFor desk.terms.checked desk.split.costs
    pub memory : IsMemory P.make.lines P.base
    pub room : desk.split.front.terms.trail ≤ desk.history.room
    pub have : ∥ HaveLent L P desk.logs 8 ports ∥₁
    pub stands : ∥ ((m : Machine) × DeskStands P desk m) ∥₁

  -- The call led from a machine, for which the pieces stood, to one for which they stand once of each channel what is now is told.
  pub record CallLed (course : Course) (old new : DeskView) (ports : List K) (m : Machine) : Type 0 where
    pub later : Machine
    pub leads : GoesAlong course (setup_at P old) (world_at old m) (world_at new later)
    pub stands : (logs : List (List LogNote)) → AreRestated L new.terms.hold (has_ended new.split.front.mode) ports old.logs logs → DeskStands P (record new { logs = logs }) later

  -- What became of the pieces in the call. These are the ports then.
  pub record CallDid (course : Course) (old new : DeskView) (ports : List K) : Type 0 where
    pub due : ∥ AllComeBack L P new.terms.hold (has_ended new.split.front.mode) old.logs ports ∥₁
    pub stays : EndStays (has_ended new.split.front.mode) old.logs
    pub count : length ports ≡ P.ports
    pub setup : setup_at P new ≡ setup_at P old
    pub terms : AreTermsOf P.make new.terms
    pub reckoned : AreReckonedFor new.terms.checked new.split.costs
    pub room : new.history.room ≡ old.history.room
    pub start : new.split.front.terms.start ≡ old.split.front.terms.start
    pub accepted : new.split.front.accepted ≡ old.split.front.accepted
    pub persisted : old.split.front.persisted ≤ new.split.front.persisted
    pub within : new.split.front.persisted ≤ new.split.front.accepted
    pub led : (m : Machine) → DeskStands P old m → ∥ CallLed course old new ports m ∥₁
