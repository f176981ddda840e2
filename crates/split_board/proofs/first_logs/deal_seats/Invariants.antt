use Rattle.std.proofs.Common.{◌≡◌, ◌≤◌}
use Rattle.std.specs.Prelude.{vec_capacity}
use Rattle.std.specs.Option.{option_map}
use Rattle.split_board.specs.FirstLogs.{AreToldOfPorts, HaveSeats}
use Rattle.board_desk.specs.Loans.{waits_of_port}
use Rattle.split_board.proofs.first_logs.deal_seats.Given as goal

abbrev pub ghosts-deal_one : goal.ghosts-deal_one
ghosts-deal_one g a = record { waits = waits_of_port g.K.ChannelPort (option_map (λ p. p.now) a.port) }

-- the first seats are dealt
abbrev pub invariant-loop-channel : goal.invariant-loop-channel
invariant-loop-channel g l = record {
  table : l.known.table ≡ l.logs;
  seats : HaveSeats l.channel l.known l.seats.items;
  told : AreToldOfPorts g.K.ChannelPort l.hold l.ended l.ports.items l.channel l.known.logs;
  room : 8 ≤ vec_capacity l.seats;
}
