use Rattle.ddr4_boards.specs.Naming.{channels_of, make_of_module}
use Rattle.tests_boards.proofs.cases.try_case.Given as goal

abbrev pub ghosts-try_board-B-Ledger : goal.ghosts-try_board-B-Ledger
ghosts-try_board-B-Ledger g a = record { name = a.ready.tables.opening.name; parts = a.ready.tables.opening.parts }

abbrev pub ghosts-try_board-B-BoardName : goal.ghosts-try_board-B-BoardName
ghosts-try_board-B-BoardName g a = record { board = a.ready.tables.opening.board; channels = channels_of a.ready.recorded; before = 0 }

abbrev pub ghosts-try_board-B-PartsName : goal.ghosts-try_board-B-PartsName
ghosts-try_board-B-PartsName g a = record {
  logs = a.ready.tables.logs;
  base = a.ready.recorded.history.base;
  ports = channels_of a.ready.recorded;
  make = make_of_module a.ready.recorded;
}
