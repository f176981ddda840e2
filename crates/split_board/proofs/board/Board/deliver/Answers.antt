use Rattle.board_hosts.proofs.IfOkGives.{if_ok_gives}
use Rattle.split_board.proofs.board.Board.deliver.Goals as goal

pub returns-clause-delivered : goal.returns-clause-delivered
returns-clause-delivered g c = if_ok_gives (λ answers delivered. (c.deref_mut.result.now, c.deliver_in.new.book, delivered)) c.deliver_in.result c.deliver_in.ensures.delivered
