-- Lists of entries that have numbers.
use Rattle.std.specs.Prelude.{◌≡◌, ◌≢◌, ℕ, ◌<◌, ◌≤◌, Any, List, [], ◌∷◌, ⊤, filter, nat_lt, nat_le, length, take, drop}
use Rattle.std.specs.List.{AllByRecursion}
use Rattle.notice_book.specs.declared.entry.Called.{Called}

module _ {E : Type 0} (number : E → ℕ) where
  -- every number is below this one
  abbrev pub AreNumbersBelow : ℕ → List E → Type 0
  AreNumbersBelow limit entries = AllByRecursion (λ e. number e < limit) entries

  -- no entry has this number
  abbrev pub IsNumberFree : ℕ → List E → Type 0
  IsNumberFree wanted entries = AllByRecursion (λ e. number e ≢ wanted) entries

  -- some entry has this number
  abbrev pub IsNumberTaken : ℕ → List E → Type 0
  IsNumberTaken wanted entries = Any (λ e. number e ≡ wanted) entries

  -- the entries with a number below the mark, and the others
  abbrev pub due_entries : ℕ → List E → List E
  due_entries mark entries = filter (λ e. nat_lt (number e) mark) entries

  abbrev pub later_entries : ℕ → List E → List E
  later_entries mark entries = filter (λ e. nat_le mark (number e)) entries

  -- entry by entry, its number and a word that it may answer
  abbrev pub AnswersEach : (E → ℕ → Type 0) → List E → List Called → Type 0
  AnswersEach may_answer [] [] = ⊤
  AnswersEach may_answer (e ∷ es) (c ∷ rest) = (c.number ≡ number e) × may_answer e c.answer × AnswersEach may_answer es rest
  AnswersEach may_answer [] (c ∷ rest) = ⊥
  AnswersEach may_answer (e ∷ es) [] = ⊥

  -- the first n are those below the mark
  pub record IsCountBelow (mark : ℕ) (entries : List E) (n : ℕ) : Type 0 where
    pub bound : n ≤ length entries
    pub before : AllByRecursion (λ e. number e < mark) (take n entries)
    pub behind : AllByRecursion (λ e. mark ≤ number e) (drop n entries)

  -- the smaller numbers stand before the place, and the greater ones behind it
  pub record IsPlaceFor (wanted : ℕ) (entries : List E) (place : ℕ) : Type 0 where
    pub bound : place ≤ length entries
    pub before : AllByRecursion (λ e. number e < wanted) (take place entries)
    pub behind : AllByRecursion (λ e. wanted < number e) (drop place entries)
