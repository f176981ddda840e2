use Rattle.ddr4_boards.specs.Naming.{channels_of, make_of_module}
use Rattle.tests_boards.proofs.again.try_again.Given as goal

abbrev pub ghosts-live_twice-B-Ledger : goal.ghosts-live_twice-B-Ledger
ghosts-live_twice-B-Ledger g a = record { name = a.ready.tables.opening.name; parts = a.ready.tables.opening.parts }

abbrev pub ghosts-live_twice-B-BoardName : goal.ghosts-live_twice-B-BoardName
ghosts-live_twice-B-BoardName g a = record { board = a.ready.tables.opening.board; channels = channels_of a.ready.recorded; before = 0 }

abbrev pub ghosts-live_twice-B-PartsName : goal.ghosts-live_twice-B-PartsName
ghosts-live_twice-B-PartsName g a = record {
  logs = a.ready.tables.logs;
  base = a.ready.recorded.history.base;
  ports = channels_of a.ready.recorded;
  make = make_of_module a.ready.recorded;
}
