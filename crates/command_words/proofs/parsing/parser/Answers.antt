use Rattle.std.proofs.Common.{arith}
use Rattle.command_words.proofs.VerbNames.{one_more}
use Rattle.command_words.proofs.parsing.parser.Goals as goal

pub loop-verb-preserved : goal.loop-verb-preserved
loop-verb-preserved c =
    one_more _ _ _ _ _ _ (omega arith) c.in_ok-program.ensures c.in_ok-verb_command.ensures c.loop-verb.invariant
