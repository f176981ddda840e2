use Rattle.std.proofs.Common.{drop}
use Rattle.run_command.proofs.Steps.{Begins}
use Rattle.run_command.proofs.requests.waits_of_lives.Given as goal

abbrev pub invariant-loop-index : goal.invariant-loop-index
invariant-loop-index l = Begins l.profile l.run l.answered.items (drop l.index l.answered.items) l.lives.items
