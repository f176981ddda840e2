use Rattle.std.proofs.Common.{arith, subst, sym, ap, ◌∙◌, ◌<◌, ◌≡◌, drop, refl}
use Rattle.notice_book.specs.NoticeBooks.{number_of_notice}
use Rattle.notice_book.proofs.RisingNumbers.{rising_drop, next, below_at, filter_below, filter_above, AnswersEach-push}
use Rattle.notice_book.proofs.book.NoticeBook.deliver.Goals as goal

pub invariant_of-self-clause-rising : goal.invariant_of-self-clause-rising
invariant_of-self-clause-rising g c = rw c.pop_front.ensures.rest (rising_drop number_of_notice 1 c.loop-i.self.entries.items c.loop-i.self.rising)

pub call-answer-requires : goal.call-answer-requires
call-answer-requires g c =
    let n = next number_of_notice c.loop-i._i c.args.self.now.entries.items c.in-Some.entry c.pop_front.new.self.items (sym c.loop-i.invariant.rest ∙ c.in-Some.ensures.items) in
    subst (λ e. e.number < c.args.mark) n.at (below_at number_of_notice c.args.mark c.below-count.result c.args.self.now.entries.items c.loop-i._i c.in-Some.entry c.below-count.ensures.before c.loop-i-test.true n.bound)

pub returns-clause-delivered : goal.returns-clause-delivered
returns-clause-delivered g c =
    let e : c.loop-i._i ≡ c.below-count.result = omega arith in record {
      called = rw (filter_below number_of_notice c.args.mark c.below-count.result c.args.self.now.entries.items c.below-count.ensures.before c.below-count.ensures.behind, ← e) c.loop-i.invariant.called;
      others =
          c.loop-i.invariant.rest
          ∙ ap (λ n. drop n c.args.self.now.entries.items) e
          ∙ sym (filter_above number_of_notice c.args.mark c.below-count.result c.args.self.now.entries.items c.below-count.ensures.before c.below-count.ensures.behind);
      room = c.loop-i.invariant.room;
    }

pub loop-i-preserved : goal.loop-i-preserved
loop-i-preserved g c =
    let n = next number_of_notice c.loop-i._i c.args.self.now.entries.items c.in-Some.entry c.pop_front.new.self.items (sym c.loop-i.invariant.rest ∙ c.in-Some.ensures.items) in
    record {
      rest = n.back;
      called = rw (n.front, c.push_reserved.ensures.items) (AnswersEach-push number_of_notice _ _ _ _ _ c.loop-i.invariant.called refl c.call-answer.ensures);
      count = omega arith;
      capacity = omega arith;
      room = c.loop-i.invariant.room;
    }
