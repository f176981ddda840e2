use Rattle.std.proofs.Common.{◌≡◌, ◌<◌, List, false, length, length-set, refl, ap, ◌∙◌, arith, get_or}
use Rattle.std.proofs.lemmas.List.{get_or_default}
use Rattle.frfcfs.proofs.Common.{Key, Pending, Read}
use Rattle.frfcfs.proofs.KeyLemmas.{told_more}
use Rattle.frfcfs.proofs.queue.tell_keys.Goals as goal

pub loop-place-preserved : goal.loop-place-preserved
loop-place-preserved c =
    let old = c.args.keys.now.items in
    let keys = c.loop-place.keys.items in
    let place = c.loop-place.place in
    let (before, size, most) = c.loop-place.invariant in
    let none : Key = record { seq = 0; row = 0; line = 0; bank = 0; kind = Read; first = false; held = false } in
    let nobody : Pending = record { seq = 0; place = record { channel = 0; rank = 0; group = 0; bank = 0; row = 0; column = 0 }; line = 0; kind = Read; number = 0; held = false } in
    let key : Key = get_or c.as_slice.result.now place none in
    let held = (get_or c.args.pending.now place nobody).held in
    let seq = (get_or c.args.pending.now place nobody).seq in
    let within : place < length old = omega (arith, c.loop-place-test.true, c.loop-place.auto.place-end, c.requires) in
    let there : place < length keys = omega (arith, within, size) in
    let read : key ≡ get_or keys place key = ap (λ (items : List Key). get_or items place none) c.as_slice.ensures ∙ get_or_default keys place none key there in
    rw c.set.ensures (told_more c.args.pending.now old keys place seq key held nobody within size c.requires read refl refl before, length-set keys place (record key { seq = seq; held = held }) ∙ size, most)
