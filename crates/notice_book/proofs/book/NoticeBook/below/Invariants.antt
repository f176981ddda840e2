use Rattle.std.specs.Prelude.{◌<◌, ◌≤◌, ◌-◌, length, take}
use Rattle.std.specs.List.{AllByRecursion}
use Rattle.notice_book.proofs.book.NoticeBook.below.Given as goal

abbrev pub invariant-loop-count : goal.invariant-loop-count
invariant-loop-count g l = record {
  bound : l.count ≤ length l.self.entries.items;
  before : AllByRecursion (λ e. e.number < l.mark) (take l.count l.self.entries.items);
}

abbrev pub decreases-loop-count : goal.decreases-loop-count
decreases-loop-count g l = length l.self.entries.items - l.count
