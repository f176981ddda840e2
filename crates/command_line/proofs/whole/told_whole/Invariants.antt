use Rattle.std.proofs.Common.{take}
use Rattle.command_line.specs.Whole.{IsSoFar}
use Rattle.command_line.proofs.whole.told_whole.Given as goal

abbrev pub invariant-loop-answer : goal.invariant-loop-answer
invariant-loop-answer l = IsSoFar l.lives (take l.answer-index l.answers) l.whole
