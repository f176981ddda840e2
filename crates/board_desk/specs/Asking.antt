-- A board's module in pieces is asked, and its desk is put together again.
use Rattle.std.specs.Prelude.{ℕ, List}
use Rattle.atomic_table.specs.Seated.{TableId}
use Rattle.channel_locks.specs.declared.parts_name.PartsName.{Ghosts as PartsGhosts}
use Rattle.channel_log.specs.Log.{LogNote}
use Rattle.channel_log.specs.Seats.{AllLogs}
use Rattle.channel_port.specs.declared.port.ChannelPort.{Ghosts}
use Rattle.energy_budget.specs.declared.energy.Energy.{Ghosts as GaugeGhosts}
use Rattle.board_hosts.specs.SeenMarks.{SeenMarks}
use Rattle.board_hosts.specs.declared.board_name.BoardName.{Ghosts as BoardGhosts}
use Rattle.save_device.specs.declared.device.SaveDevice.{Ghosts as DeviceGhosts}
use Rattle.board_desk.specs.Calling.{Course}
use Rattle.board_desk.specs.Desk.{DeskView, desk_view}
use Rattle.board_desk.specs.Kept.{IsDeskKept}
use Rattle.board_desk.specs.Pieces.{ArePiecesKept, CallDid}
use Rattle.board_desk.specs.Whole.{CallAnswers}
use Rattle.board_desk.specs.declared.pieces.RecordedPieces.{RecordedPieces}

module _ {K D E B : Type 0} (L : Ghosts K) (M : DeviceGhosts D) (N : GaugeGhosts E) (P : PartsGhosts B) where
  -- the pieces as a desk, where this is known of the channels
  abbrev pub pieces_with : RecordedPieces K D E B → List (List LogNote) → DeskView
  pieces_with rest logs = desk_view rest.pieces.front rest.pieces.terms (M.state rest.device) (N.gauge rest.energy) rest.history logs

  -- they are those of a board's module
  abbrev pub AreOfBoard : RecordedPieces K D E B → Type 0
  AreOfBoard rest = ∥ ((logs : List (List LogNote)) × ArePiecesKept L P (pieces_with rest logs) rest.pieces.ports.items) ∥₁

  -- a call of this course led from pieces to pieces
  abbrev pub LedAs : Course → RecordedPieces K D E B → RecordedPieces K D E B → Type 0
  LedAs course old new = (logs : List (List LogNote)) → ArePiecesKept L P (pieces_with old logs) old.pieces.ports.items
      → CallDid L P course (pieces_with old logs) (pieces_with new logs) new.pieces.ports.items

  module _ (O : BoardGhosts B) where
    -- A call of this course led from pieces of a desk, with this in its books, to these.
    pub record CameBy (course : Course) (old new : RecordedPieces K D E B) (words : TableId) (marks : SeenMarks) (written : ℕ) (logs : TableId) (known : AllLogs) : Type 0 where
      pub kept : IsDeskKept O P (pieces_with old known.logs) words marks written logs known.table
      pub did : CallDid L P course (pieces_with old known.logs) (pieces_with new known.logs) new.pieces.ports.items

    abbrev pub HaveCome : RecordedPieces K D E B → TableId → SeenMarks → ℕ → TableId → AllLogs → Type 0
    HaveCome new words marks written logs known = (old : RecordedPieces K D E B) × (course : Course) × CameBy course old new words marks written logs known

    -- whichever call it was, what it did is the desk's
    abbrev pub AnswersAsCame : RecordedPieces K D E B → TableId → SeenMarks → ℕ → TableId → AllLogs → DeskView → Type 0
    AnswersAsCame new words marks written logs known later = (old : RecordedPieces K D E B) (course : Course) → CameBy course old new words marks written logs known
        → CallAnswers P course (pieces_with old known.logs) later
