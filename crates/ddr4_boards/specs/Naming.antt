-- What a board's name is picked from.
use Rattle.std.specs.Prelude.{◌≡◌, ℕ}
use Rattle.std.specs.declared.sync.ledger.Ledger.{Ghosts as LedgerGhosts}
use Rattle.channel_port.specs.declared.port.ChannelPort.{Ghosts}
use Rattle.channel_locks.specs.PortMakes.{PortMake}
use Rattle.channel_locks.specs.declared.parts_name.PartsName.{Ghosts as PartsGhosts}
use Rattle.channel_set.specs.Set.{shape_of}
use Rattle.board_hosts.specs.declared.board_name.BoardName.{Ghosts as BoardGhosts}
use Rattle.board_hosts.specs.declared.recorded_module.RecordedModule.{RecordedModule}
use Rattle.split_board.specs.Starting.{make_with}
use Rattle.split_board.specs.declared.tables.BoardTables.{BoardTables}

module _ {K D E : Type 0} {L : Ghosts K} where
  -- how many channels a module has
  abbrev pub channels_of : RecordedModule K D E L → ℕ
  channels_of it = (shape_of L it.running.channels).channels

  -- what their ports have in common
  abbrev pub make_of_module : RecordedModule K D E L → PortMake
  make_of_module it = make_with L it.running.channels.terms it.running.channels.ports.items

module _ {K D E B : Type 0} (L : Ghosts K) (G : LedgerGhosts B) (O : BoardGhosts B) (P : PartsGhosts B) where
  -- The name is that of these tables, and of a module that has accepted no write yet, with its record.
  pub record IsNamed (tables : BoardTables) (recorded : RecordedModule K D E L) : Type 0 where
    pub ledger : tables.opening.name ≡ G.name
    pub parts : tables.opening.parts ≡ G.parts
    pub board : tables.opening.board ≡ O.board
    pub logs : tables.logs ≡ P.logs
    pub before : O.before ≡ 0
    pub channels : channels_of recorded ≡ O.channels
    pub ports : channels_of recorded ≡ P.ports
    pub made : make_of_module recorded ≡ P.make
    pub base : recorded.history.base ≡ P.base
