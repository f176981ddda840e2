use Rattle.std.specs.Prelude.{take}
use Rattle.std.specs.Io.KnownBytes.{Appends}
use Rattle.command_help.specs.Terms.{words_text}
use Rattle.command_help.proofs.terms.write_terms.Given as goal

abbrev pub invariant-loop-term : goal.invariant-loop-term
invariant-loop-term g l =
    Appends (g.W.Write.contents l.initial.writer) (g.W.Write.contents l.writer) (words_text (take l.term-index l.terms))
