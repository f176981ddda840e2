use Rattle.split_board.proofs.Dealt.{dealt_known}
use Rattle.split_board.proofs.first_logs.deal_one.Goals as goal

pub returns-clause-known : goal.returns-clause-known
returns-clause-known g c =
    dealt_known c.args.logs.now c.args.known.now.logs c.deal-seat.new.self c.note_hold.new.known c.note_end.new.known c.deal-seat.result c.note_hold.new.seat c.note_end.new.seat.log
    c.deal-seat.ensures.front c.deal-seat.ensures.seat c.note_hold.ensures.known c.note_hold.ensures.seat c.note_end.ensures.known
