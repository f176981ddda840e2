use Rattle.std.proofs.Common.{◌≡◌, ◌∙◌, [], ◌∷◌, ap, arith, length, length-append}
use Rattle.std.proofs.lemmas.Iterator.Adapters.{YieldsList-from_vec}
use Rattle.std.proofs.lemmas.Iterator.Consumers.{YieldsList-turn}
use Rattle.std.proofs.lemmas.List.Elements.{All-push}
use Rattle.board_hosts.proofs.Common.{Client, SeenMarks, client, seen_marks}
use Rattle.board_hosts.proofs.starting.seated.Goals as goal

pub loop-seat-preserved : goal.loop-seat-preserved
loop-seat-preserved g c =
    let before = c.loop-seat.invariant in
    let gives = c.into_iter-seat-iterator.ensures.into_iter_gives in
    let turn = YieldsList-turn (YieldsList-from_vec c.args.seats.items gives.0 (omega (arith, gives.1, c.args.seats.ok))) c.loop-seat.yielded c.loop-seat.seat-iterator c.loop-seat.yielded_by c.next.result c.next.new.self c.in-Some.seat c.in-Some.is c.next.ensures.steps in
    let seat : c.in-Some.seat ≡ seen_marks g.B.BoardName.board c.args.mark c.args.mark = turn.1 ∙ c.requires.seats (length c.loop-seat.yielded) c.in-Some.seat turn.0 in
    let host : c.new.result ≡ client c.args.mark c.args.mark 0 [] = c.new.ensures ∙ rw (ap (λ (s : SeenMarks). s.accepted) seat, ap (λ (s : SeenMarks). s.persisted) seat, c.split_off-share.ensures.amount) in
    let size = length-append c.loop-seat.yielded (c.in-Some.seat ∷ []) in (
      omega (arith, before.0, c.split_off-share.ensures.parts_left, size),
      omega (arith, before.1, c.split_off-share.ensures.amount_left),
      omega (arith, before.2, c.push_reserved.ensures.len, size),
      omega (arith, before.3, c.push_reserved.ensures.capacity),
      rw c.push_reserved.ensures.items (All-push (λ (h : Client). h ≡ client c.args.mark c.args.mark 0 []) c.loop-seat.hosts.items c.new.result before.4 host),
    )
