use Rattle.std.proofs.Common.{◌≡◌, List, remove, ap, ◌∙◌}
use Rattle.std.proofs.lemmas.Option.{slice_get_within}
use Rattle.gap_list.specs.Bounded.{Bounded}
use Rattle.frfcfs.specs.LineCounts.{AreCounts}
use Rattle.request_notes.specs.Notebook.{KeepsNotes}
use Rattle.request_notes.specs.Notes.{IsMarked}
use Rattle.frfcfs.proofs.Common.{AreKeys, Key, MarksOldest, Pending, Waiting, firsts_of}
use Rattle.frfcfs.proofs.CountLemmas.{counts_some}
use Rattle.frfcfs.proofs.KeptRequests.{kept_take, line_there}
use Rattle.frfcfs.proofs.KeyLemmas.{key_within, keys_remove, marked_within}
use Rattle.frfcfs.proofs.QueueLemmas.{lines}
use Rattle.frfcfs.proofs.KeyRequests.{keys_rise}
use Rattle.frfcfs.proofs.queue.Queue.take.Goals as goal

pub forget-requires-clause-bank : goal.forget-requires-clause-bank
forget-requires-clause-bank c = let inside = c.self.inside in key_within inside.pending.items inside.keys.items c.args.place c.take-key.result c.self.invariant.keyed c.take-key.ensures.taken

pub forget-requires-2 : goal.forget-requires-2
forget-requires-2 c =
    let inside = c.self.inside in
    let taken = c.take-taken in
    counts_some (lines inside.pending.items) inside.counts c.args.place taken.result.line c.self.invariant.counted (line_there inside.pending.items c.args.place taken.result taken.ensures.taken)

pub mark-requires : goal.mark-requires
mark-requires c =
    let inside = c.self.inside in
    let within = slice_get_within inside.pending.items c.args.place c.take-taken.result c.take-taken.ensures.taken in
    let gone = ap (λ (l : Bounded Key). l.items) c.take-key.ensures.left in
    let marked : IsMarked (remove inside.keys.items c.args.place) c.mark_oldest-marked.result c.mark_oldest-marked.new.keys.items = rw (← gone) c.mark_oldest-marked.ensures.marked in
    marked_within (remove inside.pending.items c.args.place) (remove inside.keys.items c.args.place) c.mark_oldest-marked.new.keys.items c.mark_oldest-marked.result (keys_remove inside.pending.items inside.keys.items c.args.place c.self.invariant.keyed within) marked

pub invariant_of-self : goal.invariant_of-self
invariant_of-self c =
    let inside = c.self.inside in
    let w : Waiting = record { most = inside.pending.most; next = inside.next; requests = inside.pending.items } in
    let taken = c.take-taken in
    let marked = c.mark_oldest-marked.new.keys in
    let less = c.forget-2.new.self in
    let gone = ap (λ (l : Bounded Key). l.items) c.take-key.ensures.left in
    let marks : (requests : List Pending) → AreKeys requests (remove inside.keys.items c.args.place) → AreCounts (lines requests) less
    → MarksOldest taken.result.line (remove inside.keys.items c.args.place) (firsts_of (remove inside.keys.items c.args.place)) (firsts_of marked.items) = rw (← gone) c.mark_oldest-marked.ensures.marks in
    let stay : (requests : List Pending) → AreKeys requests (remove inside.keys.items c.args.place) → AreKeys requests marked.items = rw (← gone) c.mark_oldest-marked.ensures.keys in
    let is : IsMarked (remove inside.keys.items c.args.place) c.mark_oldest-marked.result marked.items = rw (← gone) c.mark_oldest-marked.ensures.marked in
    let rise = keys_rise inside.pending.items inside.keys.items c.self.invariant.waiting.order c.self.invariant.keyed in
    let left : c.as_slice.result.now ≡ remove inside.keys.items c.args.place = c.as_slice.ensures ∙ gone in
    let noted : KeepsNotes (remove inside.keys.items c.args.place) c.forget.new.self = rw (← left) (c.forget.ensures inside.keys.items c.take-key.ensures.taken left rise c.self.invariant.noted) in
    rw taken.ensures.left
    (kept_take w inside.keys marked c.args.place taken.result inside.counts less inside.book c.mark.new.self c.self.invariant taken.ensures.taken (c.mark_oldest-marked.ensures.most ∙ ap (λ (l : Bounded Key). l.most) c.take-key.ensures.left) c.forget-2.ensures marks stay
    (c.mark.ensures (remove inside.keys.items c.args.place) marked.items is noted))
