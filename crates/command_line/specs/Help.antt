-- What the program tells of its words and of itself.
use Rattle.std.specs.Prelude.{◌≡◌, ◌⊎◌, ℕ, List, [], ◌∷◌, ◌++◌, codes, All, Contains, Option, Some, None}
use Rattle.std.specs.Borrow.{Bor}
use Rattle.std.specs.Io.KnownBytes.{Appends}
use Rattle.std.specs.String.{string_bytes}
use Rattle.command_faults.specs.Exit.{IsOfOutput}
use Rattle.command_faults.specs.declared.failure.Reason.{Reason}
use Rattle.command_faults.specs.declared.failure.Reason.TheVariants.{Known, Told}
use Rattle.command_faults.specs.declared.fault.ProgramFault.{ProgramFault}
use Rattle.command_faults.specs.declared.fault.ProgramFault.TheVariants.{Memory, NoTerm}
use Rattle.command_help.specs.Terms.{IsOf, term_text, words_text}
use Rattle.command_help.specs.declared.terms.Term.{Term}

-- a term, as a text with a newline at its end
abbrev pub term_line : Term → List ℕ
term_line term = term_text term ++ 10 ∷ []

-- a term of this word, one of these, was written
pub record Explains (terms : List Term) (word : List ℕ) (old new : Option (List ℕ)) : Type 0 where
  pub term : Term
  pub one : Contains terms term
  pub of : IsOf word term
  pub told : Appends old new (term_line term)

-- the term of the word was written, or without a word those of all terms, each as a line
abbrev pub TellsWord : List Term → Option (List ℕ) → Option (List ℕ) → Option (List ℕ) → Type 0
TellsWord terms (Some word) old new = Explains terms word old new
TellsWord terms None old new = Appends old new (words_text terms)

-- the fault names the word, and none of the terms is of it
abbrev pub IsNoTerm : List Term → Option (List ℕ) → ProgramFault → Type 0
IsNoTerm terms (Some word) fault = (name : Bor (List ℕ)) × (fault ≡ NoTerm name) × (name.now ≡ word) × All (λ term. ¬ IsOf word term) terms
IsNoTerm terms None fault = ⊥

-- why no word is explained: the output takes no more, memory is refused, or the word has no term
abbrev pub IsUntold : List Term → Option (List ℕ) → ProgramFault → Type 0
IsUntold terms word fault = IsOfOutput fault ⊎ (fault ≡ Memory) ⊎ IsNoTerm terms word fault

-- the reason asks whether this word was meant
abbrev pub TellsNear : List ℕ → Reason → Type 0
TellsNear near (Told text) = string_bytes text ≡ near ++ codes "?"
TellsNear near (Known text) = ⊥

-- it asks whether the word of one of these terms was meant, or says where all words are named
abbrev pub NamesOne : List Term → Reason → Type 0
NamesOne terms (Told text) = (term : Term) × Contains terms term × TellsNear term.word.now (Told text)
NamesOne terms (Known text) = text.now ≡ codes "nvctl explain names those that there are"

-- of which commit the program was built, where that is known
abbrev pub built_text : Option (List ℕ) → List ℕ
built_text (Some words) = words
built_text None = codes "of which commit it was built isn't known"

-- a version, and of which commit the program was built
abbrev pub version_text : List ℕ → Option (List ℕ) → List ℕ
version_text version built = codes "nvctl " ++ (version ++ (codes " (" ++ (built_text built ++ 41 ∷ 10 ∷ [])))
