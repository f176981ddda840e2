use Rattle.ddr4_boards.specs.Naming.{channels_of, make_of_module}
use Rattle.bench_workers.proofs.life.life_over.Given as goal

abbrev pub ghosts-crowd-B-Ledger : goal.ghosts-crowd-B-Ledger
ghosts-crowd-B-Ledger g a = record { name = a.ready.tables.opening.name; parts = a.ready.tables.opening.parts }

abbrev pub ghosts-crowd-B-BoardName : goal.ghosts-crowd-B-BoardName
ghosts-crowd-B-BoardName g a = record { board = a.ready.tables.opening.board; channels = channels_of a.ready.recorded; before = 0 }

abbrev pub ghosts-crowd-B-PartsName : goal.ghosts-crowd-B-PartsName
ghosts-crowd-B-PartsName g a = record {
  logs = a.ready.tables.logs;
  base = a.ready.recorded.history.base;
  ports = channels_of a.ready.recorded;
  make = make_of_module a.ready.recorded;
}
