use Rattle.ddr4_boards.specs.Naming.{channels_of, make_of_module}
use Rattle.tests_workers.proofs.amid.try_amid.Given as goal

abbrev pub ghosts-lose_amid-B-Ledger : goal.ghosts-lose_amid-B-Ledger
ghosts-lose_amid-B-Ledger g a = record { name = a.ready.tables.opening.name; parts = a.ready.tables.opening.parts }

abbrev pub ghosts-lose_amid-B-BoardName : goal.ghosts-lose_amid-B-BoardName
ghosts-lose_amid-B-BoardName g a = record { board = a.ready.tables.opening.board; channels = channels_of a.ready.recorded; before = 0 }

abbrev pub ghosts-lose_amid-B-PartsName : goal.ghosts-lose_amid-B-PartsName
ghosts-lose_amid-B-PartsName g a = record {
  logs = a.ready.tables.logs;
  base = a.ready.recorded.history.base;
  ports = channels_of a.ready.recorded;
  make = make_of_module a.ready.recorded;
}
