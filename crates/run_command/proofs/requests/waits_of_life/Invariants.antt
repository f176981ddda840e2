use Rattle.std.proofs.Common.{take}
use Rattle.run_command.specs.Requests.{Scene}
use Rattle.run_command.proofs.Steps.{HasTaken}
use Rattle.run_command.proofs.requests.waits_of_life.Given as goal

abbrev pub invariant-loop-line : goal.invariant-loop-line
invariant-loop-line l = let scene : Scene = record { run = l.run; life = l.life; map = l.fn.map } in HasTaken scene (take l.line-index l.lines) l.requests
