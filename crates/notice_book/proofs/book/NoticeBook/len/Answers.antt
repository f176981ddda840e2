use Rattle.std.proofs.Common.{rules}
use Rattle.notice_book.proofs.book.NoticeBook.len.Goals as goal

pub returns : goal.returns
returns g c = search rules
