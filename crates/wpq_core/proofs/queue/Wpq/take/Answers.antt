use Rattle.std.proofs.Common.{◌≡◌, List, Some, slice_get, ap, ◌∙◌, sym, subst}
use Rattle.std.proofs.lemmas.Option.{same_Some, slice_get_within}
use Rattle.gap_list.specs.Bounded.{Bounded}
use Rattle.wpq_core.specs.declared.queue.PendingWrite.{PendingWrite}
use Rattle.wpq_core.proofs.Numbers.{queue_take}
use Rattle.wpq_core.proofs.queue.Wpq.take.Goals as goal

pub invariant_of-self : goal.invariant_of-self
invariant_of-self c =
    let writes = c.self.inside.writes in
    let place = c.in_ok-place.place in
    let (w, at, is) = c.in_ok-place.ensures in
    let within = slice_get_within writes.items place w (subst (λ (xs : List PendingWrite). slice_get xs place ≡ Some w) c.as_slice.ensures at) in
    rw c.take.ensures.left (queue_take (record { depth = writes.most; writes = writes.items }) place c.self.invariant within)

pub returns-clause-takes : goal.returns-clause-takes
returns-clause-takes c =
    let writes = c.self.inside.writes.items in
    let place = c.in_ok-place.place in
    let (w, at, is) = c.in_ok-place.ensures in
    let there : slice_get writes place ≡ Some w = subst (λ (xs : List PendingWrite). slice_get xs place ≡ Some w) c.as_slice.ensures at in
    let same : w ≡ c.take.result = same_Some w c.take.result (sym there ∙ c.take.ensures.taken) in
    rw (← c.self.view_is) (place, w, there, is, ap (λ (v : PendingWrite). v.write.«data») same, ap (λ (l : Bounded PendingWrite). l.items) c.take.ensures.left)

pub returns-clause-queue : goal.returns-clause-queue
returns-clause-queue c = invariant_of-self c
