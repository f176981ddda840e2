-- The names of verbs that became subcommands.
use Rattle.std.proofs.Common.{◌≡◌, ℕ, ◌+◌, ◌<◌, List, [], ◌∷◌, ◌++◌, ap, ◌∙◌, add-one, get_or, length, take}
use Rattle.std.proofs.lemmas.List.{map-append}
use Rattle.std.proofs.Math.Seq.{take-suc}
use Rattle.clap.specs.Words.{AddsSubcommand, names_in, shape_of, subcommand_names}
use Rattle.clap.specs.declared.builder.command.Command.{Command}
use Rattle.command_words.specs.Verbs.{names_of}
use Rattle.command_words.specs.declared.verb.Verb.{Verb}

-- the command of a verb has its name behind those of the verbs before it
pub one_more : (old sub new : Command) (verbs : List Verb) (n : ℕ) (d : Verb) → n < length verbs → AddsSubcommand old sub new
    → (shape_of sub).name ≡ (get_or verbs n d).name.now → subcommand_names old ≡ names_of (take n verbs)
    → subcommand_names new ≡ names_of (take (n + 1) verbs)
one_more old sub new verbs n d below adds name before =
    let behind : subcommand_names new ≡ subcommand_names old ++ (shape_of adds.added).name ∷ [] = ap names_in adds.subcommands ∙ simp map-append in
    let same : (shape_of adds.added).name ≡ (shape_of sub).name = ap (λ name. name.now) adds.name in
    let taken : names_of (take (n + 1) verbs) ≡ names_of (take n verbs) ++ (get_or verbs n d).name.now ∷ [] =
    rw (add-one, take-suc verbs n d below) (simp map-append) in
    cc
