use Rattle.std.proofs.Common.{◌+◌, ◌<◌, arith, false, get_or, length, take}
use Rattle.std.proofs.lemmas.List.{get_or_default}
use Rattle.request_notes.specs.declared.key.Key.{Key}
use Rattle.request_notes.specs.declared.pending.Kind.TheVariants.{Read}
use Rattle.request_notes.proofs.NoteLemmas.{joins_more}
use Rattle.request_notes.proofs.notes.Notes.renew.Goals as goal

pub loop-place-init : goal.loop-place-init
loop-place-init c = c.cleared.ensures

pub loop-place-preserved : goal.loop-place-preserved
loop-place-preserved c =
    let keys = c.args.keys.now in
    let place = c.loop-place.place in
    let within : place < length keys = omega (arith, c.loop-place-test.true, c.loop-place.auto.place-end) in
    let none : Key = record { seq = 0; row = 0; line = 0; bank = 0; kind = Read; first = false; held = false } in
    let key : Key = get_or keys place none in
    c.add.ensures (take place keys) (take (place + 1) keys) (joins_more keys place key within (get_or_default keys place none key within)) c.loop-place.invariant
