use Rattle.ddr4_boards.specs.Naming.{channels_of, make_of_module}
use Rattle.tests_use.proofs.arming.wait_for_arming.Given as goal

abbrev pub ghosts-arm_beside-B-Ledger : goal.ghosts-arm_beside-B-Ledger
ghosts-arm_beside-B-Ledger g a = record { name = a.ready.tables.opening.name; parts = a.ready.tables.opening.parts }

abbrev pub ghosts-arm_beside-B-BoardName : goal.ghosts-arm_beside-B-BoardName
ghosts-arm_beside-B-BoardName g a = record { board = a.ready.tables.opening.board; channels = channels_of a.ready.recorded; before = 0 }

abbrev pub ghosts-arm_beside-B-PartsName : goal.ghosts-arm_beside-B-PartsName
ghosts-arm_beside-B-PartsName g a = record {
  logs = a.ready.tables.logs;
  base = a.ready.recorded.history.base;
  ports = channels_of a.ready.recorded;
  make = make_of_module a.ready.recorded;
}
