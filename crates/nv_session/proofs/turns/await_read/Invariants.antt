use Rattle.std.proofs.Common.{◌≡◌}
use Rattle.nv_session.proofs.Common.{ComesAlone, SameStored, setup_of}
use Rattle.nv_session.proofs.Awaiting.{AwaitsTurns}
use Rattle.nv_session.proofs.turns.await_read.Given as goal

abbrev pub invariant-loop-turn : goal.invariant-loop-turn
invariant-loop-turn g l =
    let L = g.K.ChannelPort in
    record {
      setup : setup_of L l.running ≡ setup_of L l.fn.running;
      stored : SameStored L l.fn.running l.running;
      comes : l.fn.channel ≡ l.fn.ticket.channel → ComesAlone L (AwaitsTurns l.fn.ticket l._turn) l.fn.running l.running;
    }
