use Rattle.std.proofs.Common.{arith}
use Rattle.notice_book.specs.NoticeBooks.{number_of_notice}
use Rattle.notice_book.proofs.RisingNumbers.{rising_from}
use Rattle.notice_book.proofs.book.NoticeBook.below.Goals as goal

pub returns-else-index-mark : goal.returns-else-index-mark
returns-else-index-mark g c = record {
  bound = c.loop-count.invariant.bound;
  before = c.loop-count.invariant.before;
  behind = rising_from number_of_notice c.args.mark c.loop-count.count c.args.self.now.entries.items c.index.result.now c.args.self.now.rising (omega (arith, c.loop-count-test.true, c.len.ensures)) c.index.ensures c.if-index-mark.false;
}
