use Rattle.std.specs.Prelude.{◌≡◌, take}
use Rattle.clap.specs.Words.{subcommand_names}
use Rattle.command_words.specs.Verbs.{names_of}
use Rattle.command_words.proofs.parsing.parser.Given as goal

abbrev pub invariant-loop-verb : goal.invariant-loop-verb
invariant-loop-verb l = subcommand_names l.program ≡ names_of (take l.verb-index l.verb-items)
