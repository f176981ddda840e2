-- What is true behind the board's lock whenever it is free.
use Rattle.std.specs.Prelude.{◌≡◌, ℕ, ◌+◌, ◌≤◌, Some}
use Rattle.atomic_table.specs.Seated.{TableId}
use Rattle.board_hosts.specs.SeenMarks.{SeenMarks, seen_marks}
use Rattle.channel_port.specs.Shape.{IsShape}
use Rattle.channel_locks.specs.PortMakes.{PortMake}
use Rattle.channel_set.specs.declared.terms.PortTerms.{PortTerms}
use Rattle.energy_budget.specs.Costs.{AreReckonedFor}
use Rattle.line_memory.specs.Memory.{IsMemory}
use Rattle.channel_locks.specs.declared.parts_name.PartsName.{Ghosts as PartsGhosts}
use Rattle.nv_machine.specs.State.{Machine}
use Rattle.board_hosts.specs.declared.board_name.BoardName.{Ghosts as BoardGhosts}
use Rattle.board_desk.specs.Desk.{DeskStands, DeskView, shape_at}

-- ports with these terms have this in common, whatever they hold back
pub record AreTermsOf (make : PortMake) (terms : PortTerms) : Type 0 where
  pub checked : make.checked ≡ Some terms.checked
  pub lines : make.lines ≡ terms.lines
  pub depth : make.depth ≡ terms.depth
  pub most_reads : make.most_reads ≡ terms.most_reads

module _ {B : Type 0} (O : BoardGhosts B) (P : PartsGhosts B) where
  -- The words and the tables are those that the board's name says, and so are the channels, their terms, and the memory with which the
  -- life began. The marks are the front's two numbers; the hosts have written all that was accepted since the board was opened, so
  -- many; the record has room for as many writes as may be stored; and the desk stands for some machine.
  pub record IsDeskKept (desk : DeskView) (words : TableId) (marks : SeenMarks) (written : ℕ) (logs known : TableId) : Type 0 where
    pub board : words ≡ O.board
    pub logs_is : logs ≡ P.logs
    pub known_is : known ≡ P.logs
    pub channels : O.channels ≡ P.ports
    pub shape : IsShape (shape_at P desk)
    pub terms : AreTermsOf P.make desk.terms
    pub reckoned : AreReckonedFor desk.terms.checked desk.split.costs
    pub memory : IsMemory P.make.lines P.base
    pub shown : marks ≡ seen_marks O.board desk.split.front.accepted desk.split.front.persisted
    pub counted : desk.split.front.accepted ≡ desk.split.front.terms.start + O.before + written
    pub room : desk.split.front.terms.trail ≤ desk.history.room
    pub stands : ∥ ((m : Machine) × DeskStands P desk m) ∥₁
