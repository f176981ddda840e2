use Rattle.std.proofs.Common.{List, subst}
use Rattle.request_notes.specs.Notebook.{KeepsNotes}
use Rattle.request_notes.specs.Notes.{SeqsRise}
use Rattle.frfcfs.proofs.Common.{Key}
use Rattle.frfcfs.proofs.KeyRequests.{keys_rise}
use Rattle.frfcfs.proofs.queue.Queue.follow.Goals as goal

pub invariant_of-self : goal.invariant_of-self
invariant_of-self c =
    let inside = c.self.inside in
    let kept = c.self.invariant in
    let rise = keys_rise inside.pending.items inside.keys.items kept.waiting.order kept.keyed in
    let noted = subst (λ (keys : List Key). SeqsRise keys → KeepsNotes keys inside.book → KeepsNotes keys c.follow.new.self) c.as_slice.ensures c.follow.ensures in
    record { waiting = kept.waiting; marks = kept.marks; keyed = kept.keyed; room = kept.room; counted = kept.counted; noted = noted rise kept.noted }
