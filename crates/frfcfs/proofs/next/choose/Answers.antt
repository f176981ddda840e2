use Rattle.std.proofs.Common.{◌≡◌, arith}
use Rattle.frfcfs.proofs.next.choose.Goals as goal

pub returns-in_err-next : goal.returns-in_err-next
returns-in_err-next c list s = rw c.from_residual.ensures (c.in_err-next.ensures.next list s c.args.clock (omega arith) (omega arith))

pub returns : goal.returns
returns c list s =
    let next = c.in_ok-next.ensures.next list s in
    let at : c.in_ok-next.next.clock ≡ c.args.clock = omega (arith, next.from, next.until) in
    (next.turn, rw (← at) next.choice)
