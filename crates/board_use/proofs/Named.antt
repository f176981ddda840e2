-- The shape of a board that has its module's name.
use Rattle.std.proofs.Common.{◌≡◌, ◌∙◌, ℕ, ap, sym}
use Rattle.std.specs.declared.sync.ledger.Ledger.{Ghosts as LedgerGhosts}
use Rattle.energy_budget.specs.declared.costs.Costs.{Costs}
use Rattle.channel_port.specs.Shape.{Shape}
use Rattle.channel_port.specs.declared.port.ChannelPort.{Ghosts}
use Rattle.channel_locks.specs.PortMakes.{PortMake}
use Rattle.channel_locks.specs.declared.parts_name.PartsName.{Ghosts as PartsGhosts}
use Rattle.board_hosts.specs.declared.board_name.BoardName.{Ghosts as BoardGhosts}
use Rattle.board_hosts.specs.declared.recorded_module.RecordedModule.{RecordedModule}
use Rattle.board_desk.specs.Desk.{shape_named}
use Rattle.split_board.specs.declared.tables.BoardTables.{BoardTables}
use Rattle.ddr4_boards.specs.Naming.{IsNamed, make_of_module}
use Rattle.board_use.specs.Ends.{shape_beside}

-- channels of this make, so many, with what a closing save costs
abbrev shape_made : Costs → PortMake → ℕ → Shape
shape_made costs make ports = record {
  lines = make.lines;
  channels = ports;
  channel_of = λ line. (make.place_of line).channel;
  depth = make.depth;
  reads = make.most_reads;
  costs = costs;
}

pub named_shape : {K D E B : Type 0} (L : Ghosts K) (G : LedgerGhosts B) (O : BoardGhosts B) (P : PartsGhosts B) (tables : BoardTables) (it : RecordedModule K D E L)
    → IsNamed L G O P tables it → (costs : Costs) → shape_named P costs ≡ shape_beside L it costs
named_shape L G O P tables it named costs =
    ap (λ (make : PortMake). shape_made costs make P.ports) (sym named.made) ∙ ap (λ (n : ℕ). shape_made costs (make_of_module it) n) (sym named.ports)
