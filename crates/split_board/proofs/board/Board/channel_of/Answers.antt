use Rattle.split_board.proofs.board.Board.channel_of.Goals as goal
use Rattle.split_board.proofs.Laid.{asked_for}

pub returns-clause-asked : goal.returns-clause-asked
returns-clause-asked g c = asked_for g.B.BoardName g.B.PartsName c.args.self.now.lines c.args.self.now.laid c.args.line c.channel_of.result c.channel_of.ensures
