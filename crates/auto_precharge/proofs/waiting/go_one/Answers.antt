use Rattle.std.proofs.Common.{◌≡◌, true, false, nat_le, append-nil, arith}
use Rattle.auto_precharge.proofs.waiting.go_one.Goals as goal
use Rattle.auto_precharge.proofs.waiting.go_one.Goals.{then-closing-clock-via-then-closing-clock, then-closing-clock-via-else-closing-clock+then-not-lies_in}

pub returns-in_default : goal.returns-in_default
returns-in_default c list keeps placed = rw (c.in_default.is, append-nil list) keeps

pub returns-then-closing-clock : goal.returns-then-closing-clock
returns-then-closing-clock c list keeps placed = elim c.then-closing-clock.branch [
  | then-closing-clock-via-then-closing-clock w ↦
      let test : nat_le c.args.clock c.in-Some.closing.clock ≡ true = let late = w.if-closing-clock.true in grind (arith, late) in
      rw (c.in-Some.is, test, append-nil list) keeps
  | then-closing-clock-via-else-closing-clock+then-not-lies_in w ↦
      absurd (let lies = w.lies_in.ensures.1 (placed c.in-Some.closing c.in-Some.is) in let not_so = w.if-not-lies_in.true in cc)
]

pub returns : goal.returns
returns c list keeps placed =
    let test : nat_le c.args.clock c.in-Some.closing.clock ≡ false = let early = c.if-closing-clock.false in grind (arith, early) in
    rw (c.in-Some.is, test) (c.issue.ensures.kept list keeps (λ e. absurd cc))
