use Rattle.notice_book.specs.NoticeBooks.{number_of_notice}
use Rattle.notice_book.proofs.RisingNumbers.{rising_push}
use Rattle.notice_book.proofs.book.NoticeBook.register.Goals as goal

pub invariant_of-self-clause-rising : goal.invariant_of-self-clause-rising
invariant_of-self-clause-rising g c = rw c.push_back_reserved.ensures.items (rising_push number_of_notice c.args.self.now.entries.items _ c.args.self.now.rising c.requires.rises)
