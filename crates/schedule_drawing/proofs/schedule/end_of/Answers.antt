use Rattle.std.proofs.Common.{◌≡◌, ◌≤◌, take, arith}
use Rattle.std.proofs.lemmas.List.{take_all}
use Rattle.schedule_drawing.proofs.Ends.{ended-later, ended-more}
use Rattle.schedule_drawing.proofs.schedule.end_of.Goals as goal

pub loop-shape-preserved : goal.loop-shape-preserved
loop-shape-preserved c =
    let later : c.loop-shape.last ≤ c.max-last.result = omega (arith, c.max-last.ensures) in
    let next : c.to.result ≤ c.max-last.result = omega (arith, c.max-last.ensures) in
    let until : c.args.end ≤ c.max-last.result = omega (arith, c.loop-shape.invariant.1) in (
      ended-more c.max-last.result c.args.shapes.now c.loop-shape.shape-index _ c.loop-shape-test.true
          (ended-later c.loop-shape.last c.max-last.result (take c.loop-shape.shape-index c.args.shapes.now) later c.loop-shape.invariant.0)
          (rw c.to.ensures at next),
      until,
    )

pub returns-clause-by : goal.returns-clause-by
returns-clause-by c =
    let all : take c.loop-shape.shape-index c.args.shapes.now ≡ c.args.shapes.now =
    take_all c.loop-shape.shape-index c.args.shapes.now (omega arith) in
    rw all at c.loop-shape.invariant.0
