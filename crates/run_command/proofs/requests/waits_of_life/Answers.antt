use Rattle.std.proofs.Common.{arith}
use Rattle.std.proofs.lemmas.Result.{IfOk-weaker}
use Rattle.run_command.specs.Requests.{Scene}
use Rattle.run_command.proofs.Steps.{all_taken, one_taken}
use Rattle.run_command.proofs.requests.waits_of_life.Goals as goal

pub loop-line-preserved : goal.loop-line-preserved
loop-line-preserved c =
    let scene : Scene = record { run = c.args.run.now; life = c.args.life; map = c.args.map } in
    one_taken scene c.args.lines.now c.loop-line.line-index _ c.loop-line-test.true (omega arith) c.loop-line.requests c.take.new.self c.loop-line.invariant c.in_ok-take.ensures

pub returns : goal.returns
returns c =
    IfOk-weaker c.waits.result _ _
    (λ told tells. all_taken c.args.run.now c.args.life c.args.map c.args.lines.now c.loop-line.line-index c.loop-line.requests told c.loop-line-test.false c.loop-line.invariant tells) c.waits.ensures
