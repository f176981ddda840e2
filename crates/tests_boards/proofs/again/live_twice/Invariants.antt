use Rattle.std.specs.Prelude.{◌-◌}
use Rattle.ddr4_boards.specs.Naming.{channels_of, make_of_module}
use Rattle.tests_boards.proofs.again.live_twice.Given as goal

abbrev pub ghosts-live_on-B-Ledger : goal.ghosts-live_on-B-Ledger
ghosts-live_on-B-Ledger g a = record { name = a.tables.opening.name; parts = a.tables.opening.parts }

abbrev pub ghosts-live_on-B-BoardName : goal.ghosts-live_on-B-BoardName
ghosts-live_on-B-BoardName g a = record {
  board = a.tables.opening.board;
  channels = channels_of a.recorded;
  before = a.recorded.running.front.accepted - a.recorded.running.front.terms.start;
}

abbrev pub ghosts-live_on-B-PartsName : goal.ghosts-live_on-B-PartsName
ghosts-live_on-B-PartsName g a = record {
  logs = a.tables.logs;
  base = a.recorded.history.base;
  ports = channels_of a.recorded;
  make = make_of_module a.recorded;
}
