use Rattle.clap.specs.Words.{SameNames}
use Rattle.command_words.proofs.parsing.with_switches.Given as goal

abbrev pub invariant-loop-switch : goal.invariant-loop-switch
invariant-loop-switch l = SameNames l.fn.command l.command
