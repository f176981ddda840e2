use Rattle.std.proofs.Common.{◌≡◌}
use Rattle.nv_session.proofs.Common.{Comes, HasDevice, assembly, setup_of}
use Rattle.nv_session.proofs.Turning.{HasMade}
use Rattle.nv_session.proofs.turns.save.Given as goal

abbrev pub invariant-loop-turn : goal.invariant-loop-turn
invariant-loop-turn g l =
    let L = g.K.ChannelPort in let S = g.D.SaveDevice in let E = g.E.Energy in
    record {
      size : HasDevice L l.running (S.state l.device);
      setup : setup_of L l.running ≡ setup_of L l.fn.running;
      comes : Comes L (HasMade l.fn.channels l._turn l.reply) (assembly l.fn.running (S.state l.fn.device) (E.gauge l.fn.energy)) (assembly l.running (S.state l.device) (E.gauge l.energy));
    }
