-- The names of the program's verbs.
use Rattle.std.specs.Prelude.{ℕ, List, [], ◌∷◌, codes, map}
use Rattle.command_words.specs.declared.verb.Verb.{Verb}

-- the names of verbs, in their order
abbrev pub names_of : List Verb → List (List ℕ)
names_of verbs = map (λ verb. verb.name.now) verbs

-- the program's verbs, in the order in which they are told
abbrev pub verb_names : List (List ℕ)
verb_names = codes "run" ∷ codes "live" ∷ codes "show" ∷ codes "lint" ∷ codes "crash" ∷ codes "check" ∷ codes "draw"
    ∷ codes "profile" ∷ codes "explain" ∷ codes "completions" ∷ []
