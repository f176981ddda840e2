use Rattle.std.specs.Prelude.{◌≡◌, ◌≤◌, take, drop, vec_len, vec_capacity}
use Rattle.notice_book.specs.Numbered.{AnswersEach}
use Rattle.notice_book.specs.NoticeBooks.{MayAnswer, number_of_notice}
use Rattle.notice_book.proofs.book.NoticeBook.deliver.Given as goal

abbrev pub invariant-loop-i : goal.invariant-loop-i
invariant-loop-i g l = record {
  rest : l.self.entries.items ≡ drop l._i l.fn.self.entries.items;
  called : AnswersEach number_of_notice (MayAnswer l.mark) (take l._i l.fn.self.entries.items) l.answers.items;
  count : vec_len l.answers ≡ l._i;
  capacity : l.count ≤ vec_capacity l.answers;
  room : l.self.room ≡ l.fn.self.room;
}
