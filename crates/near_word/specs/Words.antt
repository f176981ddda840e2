-- Words that are known.
use Rattle.std.specs.Prelude.{ℕ, List, Contains}
use Rattle.std.specs.Borrow.{Bor}

-- a word is one of these
abbrev pub IsOneOf : List (Bor (List ℕ)) → Bor (List ℕ) → Type 0
IsOneOf known word = Contains known word
