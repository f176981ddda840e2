use Rattle.std.proofs.Common.{◌≡◌}
use Rattle.nv_session.proofs.Common.{ComesAlone, WorksEach, setup_of}
use Rattle.nv_session.proofs.turns.work_each.Given as goal

abbrev pub invariant-loop-channel : goal.invariant-loop-channel
invariant-loop-channel g l =
    let L = g.K.ChannelPort in
    record {
      setup : setup_of L l.running ≡ setup_of L l.fn.running;
      comes : ComesAlone L (WorksEach l.channel) l.fn.running l.running;
    }
