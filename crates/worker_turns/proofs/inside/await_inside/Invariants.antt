use Rattle.std.proofs.Common.{◌<◌, ℕ}
use Rattle.worker_turns.specs.declared.Turn.TheVariants.{Hold}
use Rattle.worker_turns.proofs.inside.await_inside.Given as goal

abbrev pub invariant-loop-turn : goal.invariant-loop-turn
invariant-loop-turn g l = (earlier : ℕ) → earlier < l.turn → g.G.Gate.says_inside l.fn.worker earlier Hold l.fn.gate
