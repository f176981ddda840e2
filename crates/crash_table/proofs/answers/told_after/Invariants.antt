use Rattle.std.proofs.Common.{◌≡◌, take, fold}
use Rattle.crash_table.specs.Outcomes.{told_behind}
use Rattle.crash_table.proofs.answers.told_after.Given as goal

abbrev pub invariant-loop-answer : goal.invariant-loop-answer
invariant-loop-answer l = l.told ≡ fold (λ told answer. told_behind answer told) l.fn.told (take l.answer-index l.answers)
