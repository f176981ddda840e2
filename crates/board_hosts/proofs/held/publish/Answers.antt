use Rattle.std.proofs.Common.{◌≡◌, max, refl, arith}
use Rattle.board_hosts.specs.SeenMarks.{seen_marks}
use Rattle.board_hosts.proofs.held.publish.Goals as goal

pub accept-requires : goal.accept-requires
accept-requires c = record { board = c.requires.board; rises = c.requires.shown.accepted_shown }

pub returns : goal.returns
returns c =
    let most : max c.args.seat.now.persisted c.args.persisted ≡ c.args.persisted = omega (arith, c.requires.shown.persisted_shown) in
    rw (c.raise.ensures, c.accept.ensures, most) (refl {a = seen_marks c.args.marks.now c.args.accepted c.args.persisted})
