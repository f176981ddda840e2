use Rattle.clap.specs.Words.{SameNames}
use Rattle.command_words.proofs.parsing.with_operands.Given as goal

abbrev pub invariant-loop-operand : goal.invariant-loop-operand
invariant-loop-operand l = SameNames l.fn.command l.command
