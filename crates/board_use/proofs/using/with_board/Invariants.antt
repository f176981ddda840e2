use Rattle.ddr4_boards.specs.Naming.{channels_of, make_of_module}
use Rattle.board_use.proofs.using.with_board.Given as goal

abbrev pub ghosts-use_ready-B-Ledger : goal.ghosts-use_ready-B-Ledger
ghosts-use_ready-B-Ledger g a = record { name = a.ready.tables.opening.name; parts = a.ready.tables.opening.parts }

abbrev pub ghosts-use_ready-B-BoardName : goal.ghosts-use_ready-B-BoardName
ghosts-use_ready-B-BoardName g a = record { board = a.ready.tables.opening.board; channels = channels_of a.ready.recorded; before = 0 }

abbrev pub ghosts-use_ready-B-PartsName : goal.ghosts-use_ready-B-PartsName
ghosts-use_ready-B-PartsName g a = record {
  logs = a.ready.tables.logs;
  base = a.ready.recorded.history.base;
  ports = channels_of a.ready.recorded;
  make = make_of_module a.ready.recorded;
}
