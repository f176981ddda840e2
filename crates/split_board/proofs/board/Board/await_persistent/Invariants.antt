use Rattle.std.proofs.Common.{◌≡◌}
use Rattle.board_hosts.specs.Client.{SeesNoLess}
use Rattle.split_board.proofs.board.Board.await_persistent.Given as goal

-- the host has looked, and else is as it was
abbrev pub invariant-loop : goal.invariant-loop
invariant-loop g l = record {
  rises : SeesNoLess l.fn.host l.host;
  accepted : l.host.accepted ≡ l.fn.host.accepted;
  writes : l.host.writes ≡ l.fn.host.writes;
  delivered : l.host.delivered ≡ l.fn.host.delivered;
}
