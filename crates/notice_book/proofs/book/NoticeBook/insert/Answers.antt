use Rattle.std.proofs.Common.{rules}
use Rattle.notice_book.specs.NoticeBooks.{number_of_notice}
use Rattle.notice_book.proofs.RisingNumbers.{rising_insert, free_number}
use Rattle.notice_book.proofs.book.NoticeBook.insert.Goals as goal

pub invariant_of-self-clause-rising : goal.invariant_of-self-clause-rising
invariant_of-self-clause-rising g c =
    let here = c.in-Some.ensures.place in
    rw c.put_at.ensures.items (rising_insert number_of_notice c.in-Some.place c.args.self.now.entries.items _ c.args.self.now.rising here.before here.behind)

pub returns-clause-added : goal.returns-clause-added
returns-clause-added g c =
    let here = c.in-Some.ensures.place in record {
      allowed = record {
        room = c.if-is_full.ensures.room;
        free = free_number number_of_notice c.args.number c.in-Some.place c.args.self.now.entries.items here.before here.behind;
      };
      added = record { place = c.in-Some.place; entry = _; numbered = search rules; noticed = search rules; entries = c.put_at.ensures.items };
      room = search rules;
    }
