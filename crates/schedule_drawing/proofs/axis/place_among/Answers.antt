use Rattle.std.proofs.Common.{◌-◌, arith, sym}
use Rattle.schedule_drawing.proofs.Knots.{x-last, x-none}
use Rattle.schedule_drawing.proofs.axis.place_among.Goals as goal

pub returns-then-count-eq0 : goal.returns-then-count-eq0
returns-then-count-eq0 c =
    sym (x-none c.args.knots.now c.args.clock 0
    (λ k e high. c.knots_up_to-count.ensures.up_to.1 k e (omega (arith, c.if-count-eq0.true)) high))

pub returns : goal.returns
returns c =
    sym (x-last (c.knots_up_to-count.result - 1) c.args.knots.now c.args.clock 0 _
    (omega (arith, c.knots_up_to-count.ensures.within, c.if-count-eq0.false))
    (λ k e at. c.knots_up_to-count.ensures.up_to.0 k e (omega arith) (omega (arith, at, c.if-count-eq0.false)))
    (λ k e past high. c.knots_up_to-count.ensures.up_to.1 k e (omega (arith, past, c.if-count-eq0.false)) high))
