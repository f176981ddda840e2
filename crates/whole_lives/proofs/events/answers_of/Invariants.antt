use Rattle.std.proofs.Common.{◌≡◌, ◌++◌, length, map}
use Rattle.whole_lives.specs.Events.{answer_of}
use Rattle.whole_lives.proofs.events.answers_of.Given as goal

abbrev pub invariant-loop-left : goal.invariant-loop-left
invariant-loop-left l = l.answers.items ++ map answer_of l.left ≡ map answer_of l.replies

abbrev pub decreases-loop-left : goal.decreases-loop-left
decreases-loop-left l = length l.left
