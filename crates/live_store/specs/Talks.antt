-- What was said, to what, and what it tells of the life.
use Rattle.std.specs.Prelude.{◌≡◌, ◌⊎◌, ℕ, ◌≤◌, true, false, List, [], ◌∷◌, ◌++◌, length, map, filter_map, Option, Some, None}
use Rattle.ddr4_timing.specs.declared.timing.Geometry.{Geometry}
use Rattle.channel_port.specs.declared.port.ChannelPort.{Ghosts}
use Rattle.module_core.specs.Stands.{Assembly}
use Rattle.nv_script.specs.declared.answer.Answer.{Answer}
use Rattle.nv_script.specs.declared.line.ScriptLine.{ScriptLine}
use Rattle.nv_script.specs.Texts.{IsFirstBadLine, IsScript}
use Rattle.script_runner.specs.Story.{FillTurns, turns_of}
use Rattle.live_store.specs.declared.talk.LineRefusal.TheVariants.{ScriptsAlone, Unreadable}
use Rattle.live_store.specs.declared.talk.Said.{Said}
use Rattle.live_store.specs.declared.talk.Said.TheVariants as said
use Rattle.live_store.specs.declared.talk.Turn.{Turn}
use Rattle.live_store.specs.Lives.{TakesTurns, is_for_lives}

-- the turn of which this tells, if it does
abbrev pub turn_of : Said → Option Turn
turn_of (said.Answered turn) = Some turn
turn_of (said.Began answer) = None
turn_of (said.Refused refusal) = None

abbrev pub turns_in : List Said → List Turn
turns_in told = filter_map turn_of told

-- this is said to a line, as its answer
abbrev pub answered : ScriptLine → Answer → Said
answered asked given = said.Answered (record { asked = asked; answer = given })

-- all answers to a line that asks for what a life does, as many as to a script's line
pub record IsAnswered (asked : ScriptLine) (told : List Said) : Type 0 where
  pub asks : is_for_lives asked ≡ true
  pub answers : List Answer
  pub told_are : told ≡ map (answered asked) answers
  pub whole : FillTurns (turns_of asked) answers

-- what is said to a line of a script: its answers; or, where it asks for what no life does, a refusal
abbrev pub AreSaidToLine : ScriptLine → List Said → Type 0
AreSaidToLine asked told = IsAnswered asked told ⊎ ((is_for_lives asked ≡ false) × (told ≡ said.Refused ScriptsAlone ∷ []))

-- to lines, one after another
abbrev pub AreSaidToLines : List ScriptLine → List Said → Type 0
AreSaidToLines [] told = told ≡ []
AreSaidToLines (line ∷ lines) told = (first : List Said) × (rest : List Said) × AreSaidToLine line first × AreSaidToLines lines rest × (told ≡ first ++ rest)

-- what is said to a text that was heard: that to the lines of a script which it is, or the refusal of one that is none
abbrev pub AreSaidToText : Geometry → List ℕ → List Said → Type 0
AreSaidToText geometry text told =
    ((lines : List ScriptLine) × IsScript geometry text lines × AreSaidToLines lines told)
    ⊎ ((number : ℕ) × IsFirstBadLine geometry text number × (told ≡ said.Refused Unreadable ∷ []))

-- to texts, one after another
abbrev pub AreSaidToTexts : Geometry → List (List ℕ) → List Said → Type 0
AreSaidToTexts geometry [] told = told ≡ []
AreSaidToTexts geometry (text ∷ texts) told = (first : List Said) × (rest : List Said) × AreSaidToText geometry text first × AreSaidToTexts geometry texts rest × (told ≡ first ++ rest)

-- these texts were heard since, and that was said to them
pub record AreSaidToHeard (geometry : Geometry) (before after : List (List ℕ)) (told : List Said) : Type 0 where
  pub texts : List (List ℕ)
  pub heard : after ≡ before ++ texts
  pub to : AreSaidToTexts geometry texts told

module _ {K : Type 0} (L : Ghosts K) where
  -- More was said, of which this holds, and which tells of all turns that the life took. A refusal is no turn, so it changes nothing.
  pub record TellsAll (To : List Said → Type 0) (before after : List Said) (old new : Assembly L) : Type 0 where
    pub more : List Said
    pub told : after ≡ before ++ more
    pub takes : TakesTurns L (turns_in more) old new
    pub to : To more

  -- The end came early. What was said tells of all turns that the life took but the last, which may be untold.
  pub record TellsNearly (before after : List Said) (old new : Assembly L) : Type 0 where
    pub more : List Said
    pub told : after ≡ before ++ more
    pub untold : List Turn
    pub few : length untold ≤ 1
    pub takes : TakesTurns L (turns_in more ++ untold) old new
