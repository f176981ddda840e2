use Rattle.std.proofs.Common.{arith, sym}
use Rattle.notice_book.specs.NoticeBooks.{number_of_notice}
use Rattle.notice_book.proofs.RisingNumbers.{behind_place}
use Rattle.notice_book.proofs.book.NoticeBook.place_for.Goals as goal

pub returns-then-index-number-clause-none : goal.returns-then-index-number-clause-none
returns-then-index-number-clause-none g c =
    (c.below-place.result, c.index.result.now, (let l = c.below-place.ensures.bound in omega (arith, l, c.if-place-len.false, c.len.ensures)), sym c.index.ensures, c.if-index-number.true)

pub returns-clause-place : goal.returns-clause-place
returns-clause-place g c = record {
  bound = c.below-place.ensures.bound;
  before = c.below-place.ensures.before;
  behind = behind_place number_of_notice c.args.number c.below-place.result c.args.self.now.entries.items c.index.result.now c.args.self.now.rising c.below-place.ensures.behind c.index.ensures c.if-index-number.false;
}
