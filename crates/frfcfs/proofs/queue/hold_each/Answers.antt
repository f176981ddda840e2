use Rattle.std.proofs.Common.{◌≡◌, ◌<◌, ℕ, List, false, length, length-set, set, ap, ◌∙◌, arith, get_or}
use Rattle.std.proofs.lemmas.List.{get_or_default}
use Rattle.gap_list.specs.Bounded.{Bounded}
use Rattle.frfcfs.proofs.Common.{Pending, Read}
use Rattle.frfcfs.proofs.QueueLemmas.{hold_more}
use Rattle.frfcfs.proofs.queue.hold_each.Goals as goal

pub loop-place-preserved : goal.loop-place-preserved
loop-place-preserved c =
    let old = c.args.pending.now in
    let ys = c.loop-place.pending.items in
    let place = c.loop-place.place in
    let (before, size) = c.loop-place.invariant in
    let none : Pending = record { seq = 0; place = record { channel = 0; rank = 0; group = 0; bank = 0; row = 0; column = 0 }; line = 0; kind = Read; number = 0; held = false } in
    let p : Pending = get_or c.as_slice.result.now place none in
    let held = c.is_held-held.result in
    let within : place < length old.items = omega (arith, c.loop-place-test.true, c.len-place-end.ensures) in
    let there : place < length ys = omega (arith, within, size) in
    let read : p ≡ get_or ys place p = ap (λ (items : List Pending). get_or items place none) c.as_slice.ensures ∙ get_or_default ys place none p there in
    let more = hold_more c.args.from old.items ys place p held within (ap (λ (l : Bounded Pending). l.items) before) read c.is_held-held.ensures in
    rw c.set.ensures (
      ap (λ (most : ℕ). record { most = most; items = set ys place (record p { held = held }) }) (ap (λ (l : Bounded Pending). l.most) before) ∙ ap (λ (items : List Pending). record { most = old.most; items = items }) more,
      length-set ys place (record p { held = held }) ∙ size,
    )
