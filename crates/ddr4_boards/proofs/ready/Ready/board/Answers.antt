use Rattle.std.proofs.Common.{arith}
use Rattle.ddr4_boards.proofs.Fresh.{all_recorded, none_accepted}
use Rattle.ddr4_boards.proofs.ready.Ready.board.Goals as goal

pub start-requires-clause-before : goal.start-requires-clause-before
start-requires-clause-before g c =
    let none = none_accepted g.K.ChannelPort g.D.SaveDevice c.args.self.recorded c.args.self.fresh in let before = c.requires.named.before in
    omega (arith, none, before)

pub start-requires-clause-whole : goal.start-requires-clause-whole
start-requires-clause-whole g c = all_recorded g.K.ChannelPort g.D.SaveDevice c.args.self.recorded c.args.self.fresh
