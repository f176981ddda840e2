use Rattle.split_board.specs.Turns.{TakesChannelTurn}
use Rattle.split_board.proofs.ByGate.{works_by_gate}
use Rattle.split_board.proofs.working.channel_worker.Goals as goal

pub returns : goal.returns
returns g c =
    works_by_gate _ _ (λ worker turn told. g.G.Gate.says worker turn told c.args.gate.now)
    (λ worker done. TakesChannelTurn g.K.ChannelPort g.B.PartsName g.G.Gate worker c.args.gate.now done)
    (record {
      asked = λ worker turn told new it. it;
      worked = λ worker done new it. it;
      rested = λ idle new it. it;
    }) c.args.channel c.take_turns.result _ c.take_turns.ensures
