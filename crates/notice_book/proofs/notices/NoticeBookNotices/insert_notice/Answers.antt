use Rattle.notice_book.proofs.notices.NoticeBookNotices.insert_notice.Goals as goal

pub insert-requires : goal.insert-requires
insert-requires g c = search

pub returns-clause-added : goal.returns-clause-added
returns-clause-added g c = search

pub returns-clause-refused : goal.returns-clause-refused
returns-clause-refused g c = search
