use Rattle.std.proofs.Common.{[], ap, false, refl, subst, sym, true, ◌∙◌, ◌≡◌}
use Rattle.channel_log.specs.Log.{IsLog, MayFollow, note_of}
use Rattle.channel_log.specs.Seats.{OneLog}
use Rattle.channel_log.specs.LogRule.{LogSeat, channel_half, noted_view}
use Rattle.channel_log.proofs.Telling.{following_log}
use Rattle.channel_log.proofs.seats.FrontSeat.note.Goals as goal

pub invariant_of-seat : goal.invariant_of-seat
invariant_of-seat g c =
    let note = note_of c.args.entry g.W.Standing.waits in
    let is =
    c.hand_over-2.ensures.from ∙ ap (λ (m : LogSeat). (channel_half m.0, [])) c.note_at.ensures.seat
    ∙ ap (λ (m : LogSeat). (channel_half (noted_view note m.0), [])) c.hand_over.ensures.to in
    subst (λ (m : LogSeat). (m.0.has_all ≡ false) × (m.0.has_one ≡ true) × (m.1 ≡ []) × IsLog m.0.log) (sym is)
    (refl, c.seat.invariant.1, refl, following_log _ note c.seat.invariant.3 (subst (λ (seat : OneLog). MayFollow seat.log c.args.entry) (sym c.seat.view_is) c.requires.follows))
