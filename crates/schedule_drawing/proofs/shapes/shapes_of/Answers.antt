use Rattle.std.proofs.Common.{◌≡◌, arith}
use Rattle.std.proofs.lemmas.Grind.{common_steps}
use Rattle.schedule_drawing.specs.Drawing.{drawn}
use Rattle.schedule_drawing.proofs.Marks.{marks-drawn}
use Rattle.schedule_drawing.proofs.shapes.shapes_of.Goals as goal

pub returns-clause-marks : goal.returns-clause-marks
returns-clause-marks c =
    let all : c.loop-left.shapes.items ≡ drawn c.args.t.now c.args.end c.args.entries.now = grind (arith, common_steps) in
    rw all (marks-drawn c.args.t.now c.args.end c.args.entries.now)
