use Rattle.std.proofs.Common.{IfSome}
use Rattle.near_word.specs.Words.{IsOneOf}
use Rattle.near_word.proofs.near_word.Given as goal

abbrev pub invariant-loop-name : goal.invariant-loop-name
invariant-loop-name l = IfSome l.near (IsOneOf l.known)
