use Rattle.notice_book.proofs.notices.NoticeBookNotices.deliver_below.Goals as goal

pub returns-clause-delivered : goal.returns-clause-delivered
returns-clause-delivered g c = search
