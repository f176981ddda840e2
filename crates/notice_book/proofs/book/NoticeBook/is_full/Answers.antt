use Rattle.std.proofs.Common.{rules}
use Rattle.notice_book.proofs.book.NoticeBook.is_full.Goals as goal

pub returns-clause-full : goal.returns-clause-full
returns-clause-full g c = search rules
