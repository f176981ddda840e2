use Rattle.channel_locks.specs.PortMakes.{make_of}
use Rattle.ddr4_port.specs.Port.{port_view}
use Rattle.tests_workers.proofs.ahead.try_turn.Given as goal

abbrev pub ghosts-take_turn : goal.ghosts-take_turn
ghosts-take_turn g a = record { logs = a.seat.table; base = a.memory.now; ports = 1; make = make_of (port_view a.port) }
