use Rattle.split_board.specs.Wholes.{WorksAsSaver}
use Rattle.split_board.proofs.ByGate.{works_by_gate}
use Rattle.split_board.proofs.saving.saver_worker.Goals as goal

pub returns : goal.returns
returns g c =
    works_by_gate _ _ (λ worker turn told. g.G.Gate.says worker turn told c.args.gate.now)
    (λ worker done. WorksAsSaver g.K.ChannelPort g.D.SaveDevice g.E.Energy g.B.BoardName g.B.PartsName done)
    (record {
      asked = λ worker turn told new it. it;
      worked = λ worker done new it. it;
      rested = λ idle new it. it;
    }) c.args.channels c.take_turns.result _ c.take_turns.ensures
