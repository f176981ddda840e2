use Rattle.board_hosts.proofs.IfOkGives.{if_ok_gives, if_err_gives}
use Rattle.split_board.proofs.board.Board.notify.Goals as goal

pub insert_notice-requires : goal.insert_notice-requires
insert_notice-requires g c = c.requires

pub returns-clause-added : goal.returns-clause-added
returns-clause-added g c = if_ok_gives (λ value inserted. (c.deref_mut.result.now, c.insert_notice.new.self, inserted)) c.insert_notice.result c.insert_notice.ensures.added

pub returns-clause-refused : goal.returns-clause-refused
returns-clause-refused g c = if_err_gives (λ refusal refused. (c.deref_mut.result.now, refused)) c.insert_notice.result c.insert_notice.ensures.refused
