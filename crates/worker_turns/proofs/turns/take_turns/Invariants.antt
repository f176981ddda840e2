use Rattle.worker_turns.specs.Shifts.{TurnByTurn}
use Rattle.worker_turns.proofs.turns.take_turns.Given as goal

abbrev pub invariant-loop-turn : goal.invariant-loop-turn
invariant-loop-turn g l = TurnByTurn g.S.Shift l.fn.worker l.turn l.idle l.fn.shift l.shift
