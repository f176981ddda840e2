use Rattle.std.proofs.Common.{rules}
use Rattle.notice_book.proofs.book.NoticeBook.with_room.Goals as goal

pub invariant_of-result : goal.invariant_of-result
invariant_of-result g c = search rules
