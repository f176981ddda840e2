-- What the session holds of what a reader of its answers knows.
use Rattle.std.specs.Prelude.{◌≡◌, ℕ, ◌≤◌, List, ◌++◌, length, All, Option, Some, None, is_some}
use Rattle.line_memory.specs.declared.Write.{Write}
use Rattle.line_memory.specs.Memory.{after, zero_lines}
use Rattle.channel_port.specs.declared.port.ChannelPort.{Ghosts}
use Rattle.nv_machine.specs.State.{Machine, start_of_life, base_of_life}
use Rattle.nv_session.specs.Living.{SessionAt}
use Rattle.nv_session.specs.Restoring.{GoesBackTo}
use Rattle.nv_script.specs.declared.line.ScriptLine.{ScriptLine}
use Rattle.nv_script.specs.declared.answer.Answer.{Answer}
use Rattle.script_runner.specs.Ledger.{Ledger, known_behind, IsTrueOf}
use Rattle.script_runner.specs.Story.{AreAnswered, FillTurns, TakesTurns, IsWhole, AreTrueOf, known_behind_all, known_after, turns_of}

-- A machine has accepted the ledger's writes: its life began with the memory after the first of them, and has accepted the
-- others. Those that were told to be persistent are.
pub record IsKeptBy (lines : ℕ) (ledger : Ledger) (m : Machine) : Type 0 where
  pub before : List Write
  pub writes : ledger.writes ≡ before ++ m.life.writes
  pub start : start_of_life m.life ≡ length before
  pub base : base_of_life m.life ≡ after (zero_lines lines) before
  pub told : ledger.told ≤ m.life.persisted

module _ {K : Type 0} (L : Ghosts K) (lines : ℕ) where
  -- the life that runs stands with the device for such a machine, or where none runs the device is left by one
  pub record Bears (ledger : Ledger) (at : SessionAt L) : Type 0 where
    pub runs : ledger.runs ≡ is_some at.life
    pub m : Machine
    pub back : GoesBackTo L lines at m
    pub kept : IsKeptBy lines ledger m

  -- the same of what is known, where anything is
  abbrev pub BearsOut : Option Ledger → SessionAt L → Type 0
  BearsOut known at = (ledger : Ledger) → known ≡ Some ledger → Bears ledger at

  -- a line was answered: whatever was known and borne out, the answer is true by it, and what is known then is borne out
  pub record TellsTruly (asked : ScriptLine) (given : Answer) (known : Option Ledger) (new : SessionAt L) : Type 0 where
    pub holds : IsTrueOf lines known asked given
    pub bears : BearsOut (known_behind asked given known) new

  abbrev pub AnswersTruly : ScriptLine → Answer → SessionAt L → SessionAt L → Type 0
  AnswersTruly asked given old new = (known : Option Ledger) → BearsOut known old → TellsTruly asked given known new

  -- Answers to a line followed those that were there: whatever was known and borne out, they are true by it.
  pub record AnswersPart (asked : ScriptLine) (before after : List Answer) (old : SessionAt L) : Type 0 where
    pub given : List Answer
    pub grown_by : after ≡ before ++ given
    pub holds : (known : Option Ledger) → BearsOut known old → AreTrueOf lines known asked given

  -- and what is known then is borne out
  pub record AnswersLine (asked : ScriptLine) (before after : List Answer) (old new : SessionAt L) : Type 0 where
    pub part : AnswersPart asked before after old
    pub keeps : (known : Option Ledger) → BearsOut known old → BearsOut (known_behind_all asked part.given known) new

  -- and there is one for each of so many turns, at none of which a channel was idle
  pub record AnswersTurns (turns : ℕ) (asked : ScriptLine) (before after : List Answer) (old new : SessionAt L) : Type 0 where
    pub line : AnswersLine asked before after old new
    pub taken : TakesTurns turns line.part.given

  -- and they are all answers to it
  pub record AnswersWhole (asked : ScriptLine) (before after : List Answer) (old new : SessionAt L) : Type 0 where
    pub line : AnswersLine asked before after old new
    pub whole : FillTurns (turns_of asked) line.part.given

  -- lines were answered from the beginning of a session on
  pub record GoesThrough (asked : List ScriptLine) (before after : List Answer) (new : SessionAt L) : Type 0 where
    pub answered : AreAnswered lines asked before after
    pub whole : All IsWhole answered.story
    pub bears : BearsOut (known_after None answered.story) new
