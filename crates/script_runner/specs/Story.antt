-- The answers to the lines of a script.
use Rattle.std.specs.Prelude.{◌≡◌, ◌⊎◌, ℕ, ◌-◌, ◌<◌, Bool, true, false, List, [], ◌∷◌, ◌++◌, length, take, map, fold, All, Option, None}
use Rattle.std.specs.List.{flat_map}
use Rattle.nv_script.specs.declared.line.ScriptLine.{ScriptLine}
use Rattle.nv_script.specs.declared.line.ScriptLine.TheVariants as line
use Rattle.nv_script.specs.declared.answer.Answer.{Answer}
use Rattle.nv_script.specs.declared.answer.Answer.TheVariants as answer
use Rattle.nv_script.specs.declared.reading.ScriptFault.{ScriptFault}
use Rattle.nv_script.specs.declared.reading.ScriptFault.TheVariants as fault
use Rattle.script_runner.specs.Ledger.{Ledger, known_behind, IsTrueOf}

-- a line, and the answers to it
pub record Exchange : Type 0 where
  pub asked : ScriptLine
  pub answers : List Answer

-- how many answers a line may have
abbrev pub turns_of : ScriptLine → ℕ
turns_of (line.Work channel most) = most
turns_of other = 1

-- whether more commands may follow this answer
abbrev pub is_busy : Answer → Bool
is_busy (answer.Idle channel) = false
is_busy other = true

-- one answer for each turn, and no channel was idle
pub record TakesTurns (turns : ℕ) (answers : List Answer) : Type 0 where
  pub busy : All (λ answer. is_busy answer ≡ true) answers
  pub count : length answers ≡ turns

-- the last answer is that the channel is idle, after fewer others than there are turns
pub record EndsIdle (turns : ℕ) (answers : List Answer) : Type 0 where
  pub before : List Answer
  pub last : Answer
  pub is : answers ≡ before ++ last ∷ []
  pub idle : is_busy last ≡ false
  pub busy : All (λ answer. is_busy answer ≡ true) before
  pub early : length before < turns

abbrev pub FillTurns : ℕ → List Answer → Type 0
FillTurns turns answers = TakesTurns turns answers ⊎ EndsIdle turns answers

abbrev pub IsWhole : Exchange → Type 0
IsWhole exchange = FillTurns (turns_of exchange.asked) exchange.answers

-- what is known after answers to one line, and after exchanges
abbrev pub known_behind_all : ScriptLine → List Answer → Option Ledger → Option Ledger
known_behind_all asked answers known = fold (λ known answer. known_behind asked answer known) known answers

abbrev pub known_after : Option Ledger → List Exchange → Option Ledger
known_after known story = fold (λ known exchange. known_behind_all exchange.asked exchange.answers known) known story

-- each answer is true by what was known before it
abbrev pub AreTrueOf : ℕ → Option Ledger → ScriptLine → List Answer → Type 0
AreTrueOf lines known asked [] = Unit {0}
AreTrueOf lines known asked (answer ∷ answers) = IsTrueOf lines known asked answer × AreTrueOf lines (known_behind asked answer known) asked answers

abbrev pub IsTrueStory : ℕ → Option Ledger → List Exchange → Type 0
IsTrueStory lines known [] = Unit {0}
IsTrueStory lines known (exchange ∷ story) =
    AreTrueOf lines known exchange.asked exchange.answers × IsTrueStory lines (known_behind_all exchange.asked exchange.answers known) story

-- These lines were asked, in this order, and their answers followed those that were there: each is true by what the ones
-- before it made known, beginning with nothing.
pub record AreAnswered (lines : ℕ) (asked : List ScriptLine) (old new : List Answer) : Type 0 where
  pub story : List Exchange
  pub asked_are : map (λ exchange. exchange.asked) story ≡ asked
  pub answers_are : new ≡ old ++ flat_map (λ exchange. exchange.answers) story
  pub holds : IsTrueStory lines None story

-- and each line has all its answers
pub record AreAllAnswered (lines : ℕ) (asked : List ScriptLine) (old new : List Answer) : Type 0 where
  pub answered : AreAnswered lines asked old new
  pub whole : All IsWhole answered.story

-- and each line but the last has
pub record AreNearlyAnswered (lines : ℕ) (asked : List ScriptLine) (old new : List Answer) : Type 0 where
  pub answered : AreAnswered lines asked old new
  pub whole : All IsWhole (take (length asked - 1) answered.story)

-- the first of the lines were asked, of which the last may lack answers
pub record AreCutShort (lines : ℕ) (asked : List ScriptLine) (old new : List Answer) : Type 0 where
  pub run : ℕ
  pub nearly : AreNearlyAnswered lines (take run asked) old new

-- the report or memory gave out
abbrev pub GivesOut : ScriptFault → Type 0
GivesOut fault.Writer = Unit {0}
GivesOut fault.Memory = Unit {0}
GivesOut (fault.Line number) = ⊥

-- Why a run came to no end, by what its report refused before and then: the report refused an answer, by this fault; or it
-- refused none, and there was no memory for the device or for a life.
abbrev pub EndsBy : ScriptFault → List ScriptFault → List ScriptFault → Type 0
EndsBy why old new = (GivesOut why × (new ≡ old ++ why ∷ [])) ⊎ ((why ≡ fault.Memory) × (new ≡ old))

-- a report that continued an earlier one does so still
abbrev pub GoesOn : {R : Type 0} → (R → R → Type 0) → R → R → Type 0
GoesOn {R} continues old new = (earlier : R) → continues earlier old → continues earlier new
