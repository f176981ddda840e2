use Rattle.std.proofs.Common.{◌≡◌, ◌≢◌, ◌<◌, List, [], Some, rules, ap, sym, get_or, length, slice_get}
use Rattle.std.proofs.lemmas.Option.{get_or_from_slice_get, slice_get-get_or, slice_get_within}
use Rattle.wpq_core.specs.declared.queue.PendingWrite.{PendingWrite}
use Rattle.wpq_core.proofs.queue.Wpq.newest_for.Goals as goal

pub returns : goal.returns
returns c =
    let writes = c.args.self.now.writes in
    let place = c.in_ok-place.place in
    let none : PendingWrite = record { number = 0; write = record { line = 0; «data» = [] } } in
    let within : place < length writes = search rules in
    let at : slice_get writes place ≡ Some (get_or writes place none) = slice_get-get_or writes place none within in (
      place,
      get_or writes place none,
      at,
      search rules,
      ap (λ (xs : List PendingWrite). (get_or xs place none).write.«data») (sym c.writes-2.ensures.writes),
      λ j v later s.
          let there = slice_get_within writes j v s in
          let other : (get_or writes j v).write.line ≢ c.args.line = search rules in
          rw (← get_or_from_slice_get writes j v v s) other,
    )
