-- A line is read.
use Rattle.std.proofs.Common.{subst}
use Rattle.channel_port.specs.declared.answers.Got.{Got}
use Rattle.channel_port.specs.declared.answers.Got.TheVariants.{Later}
use Rattle.split_board.specs.Hosts.{ReadsAtBoard}
use Rattle.split_board.proofs.OwnLines.{own_lost, own_read}
use Rattle.split_board.proofs.board.Board.read.Given.{Over}
use Rattle.split_board.proofs.board.Board.read.Goals.{After-await_line}
use Rattle.split_board.proofs.board.Board.read.Goals as goal

module _ (g : Over) (c : After-await_line g) where
  reads : ReadsAtBoard g.K.ChannelPort g.D.SaveDevice g.E.Energy g.B.BoardName g.B.PartsName c.args.line (Later c.in-Later.ticket) c.in_ok-got.field-0.at
  reads = subst (λ (got : Got). ReadsAtBoard g.K.ChannelPort g.D.SaveDevice g.E.Energy g.B.BoardName g.B.PartsName c.args.line got c.in_ok-got.field-0.at) c.in-Later.is c.in_ok-got.ensures.read

pub returns-in-Later-clause-read : goal.returns-in-Later-clause-read
returns-in-Later-clause-read g c =
    let at = goal.at.returns-in-Later-clause-read g c in
    own_read g.K.ChannelPort g.D.SaveDevice g.E.Energy g.B.BoardName g.B.PartsName c.in-Later.ticket c.args.line c.in_ok-got.field-0.at (reads g at.After-await_line) c.await_line.result c.await_line.ensures

pub returns-in-Later-clause-refused : goal.returns-in-Later-clause-refused
returns-in-Later-clause-refused g c =
    let at = goal.at.returns-in-Later-clause-refused g c in
    own_lost g.K.ChannelPort g.D.SaveDevice g.E.Energy g.B.BoardName g.B.PartsName c.in-Later.ticket c.args.line c.in_ok-got.field-0.at (reads g at.After-await_line) c.await_line.result c.await_line.ensures
