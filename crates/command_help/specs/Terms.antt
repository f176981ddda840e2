-- Terms of words.
use Rattle.std.specs.Prelude.{◌≡◌, ℕ, List, [], ◌∷◌, ◌++◌, codes, flat_map, get_or, map}
use Rattle.command_help.specs.declared.terms.Term.{Term}

-- the term is of this word
abbrev pub IsOf : List ℕ → Term → Type 0
IsOf word term = term.word.now ≡ word

-- one of the three lines of a term
abbrev pub line_at : ℕ → Term → List ℕ
line_at place term = get_or (map (λ line. line.now) term.lines) place []

-- its lines, with a newline between two
abbrev pub term_text : Term → List ℕ
term_text term = line_at 0 term ++ 10 ∷ line_at 1 term ++ 10 ∷ line_at 2 term

-- the words of terms, each with a newline behind it
abbrev pub words_text : List Term → List ℕ
words_text terms = flat_map (λ term. term.word.now ++ 10 ∷ []) terms

-- all words that are explained: of writes, the verdicts of a restore, the modes, and the refusals
abbrev pub known_words : List (List ℕ)
known_words = codes "mark" ∷ codes "persistent" ∷ codes "Complete" ∷ codes "PossibleLoss" ∷ codes "none" ∷
    codes "disarmed" ∷ codes "armed" ∷ codes "disarming" ∷ codes "stranded" ∷ codes "closing" ∷ codes "saved" ∷
    codes "Full" ∷ codes "EnergyLow" ∷ codes "Disarming" ∷ codes "Closed" ∷ codes "TrailFull" ∷ codes "NoSuchLine" ∷
    codes "NeedEnergy" ∷ codes "SaveRunning" ∷ codes "Unsettled" ∷ codes "Spent" ∷ codes "Device" ∷ codes "NoImage" ∷
    codes "Damaged" ∷ codes "WrongSize" ∷ codes "Memory" ∷ []
