-- What a text says as a script.
use Rattle.std.specs.Prelude.{◌≡◌, ◌⊎◌, ℕ, ◌+◌, ◌-◌, ◌<◌, ◌≤◌, ◌==◌, ◌||◌, Bool, true, false, List, [], ◌∷◌, length, take, slice_index, get_or, filter_map, if◌then◌else◌, Option, Some, None, IsUtf8}
use Rattle.std.specs.List.{AllZip, slice_split}
use Rattle.ddr4_timing.specs.declared.timing.Geometry.{Geometry}
use Rattle.nv_profile.specs.Nothing.{HoldsOfNone}
use Rattle.nv_script.specs.declared.line.ScriptLine.{ScriptLine}
use Rattle.nv_script.specs.declared.reading.ScriptFault.{ScriptFault}
use Rattle.nv_script.specs.declared.reading.ScriptFault.TheVariants as fault
use Rattle.nv_script.specs.declared.reading.TheConstants.{MOST_LINE_BYTES, MOST_SCRIPT_LINES}
use Rattle.nv_script.specs.Words.{SaysLine, words_in}

-- the lines of a text: each has a newline behind it, which the last may lack
abbrev pub without_last_newline : List ℕ → List ℕ
without_last_newline text = if slice_index text (length text - 1) == 10 then take (length text - 1) text else text

abbrev pub text_lines : List ℕ → List (List ℕ)
text_lines text = slice_split (λ byte. byte == 10) (without_last_newline text)

-- a line that may be read is UTF-8, and not too long
pub record IsLineText (text : List ℕ) : Type 0 where
  pub short : length text ≤ MOST_LINE_BYTES
  pub utf8 : IsUtf8 text

-- whether it asks for nothing: it begins with `#`, or has no word
abbrev pub has_no_word : List ℕ → Bool
has_no_word text = length (words_in text) == 0

abbrev pub is_skipped : List ℕ → Bool
is_skipped text = (slice_index text 0 == 35) || has_no_word text

-- what it comes to: nothing where it is skipped, and else the line that its words say
abbrev pub ReadsAs : Geometry → List ℕ → Option ScriptLine → Type 0
ReadsAs geometry text None = IsLineText text × (is_skipped text ≡ true)
ReadsAs geometry text (Some line) = IsLineText text × (is_skipped text ≡ false) × SaysLine geometry (words_in text) line

-- the numbers of those that ask for something, where the first has this one
abbrev pub numbers_from : ℕ → List (List ℕ) → List ℕ
numbers_from number [] = []
numbers_from number (text ∷ texts) = if is_skipped text then numbers_from (number + 1) texts else number ∷ numbers_from (number + 1) texts

-- these lines of a text, not too many, come to these lines of a script
pub record AreLinesOf (geometry : Geometry) (texts : List (List ℕ)) (lines : List ScriptLine) : Type 0 where
  pub few : length texts ≤ MOST_SCRIPT_LINES
  pub read : List (Option ScriptLine)
  pub each : AllZip (ReadsAs geometry) texts read
  pub are : lines ≡ filter_map (λ line. line) read

-- a text is a script of these lines
abbrev pub IsScript : Geometry → List ℕ → List ScriptLine → Type 0
IsScript geometry text lines = AreLinesOf geometry (text_lines text) lines

-- The first line of a text that is none has this number, counted from 1: those before it come to lines of a script, and it comes
-- to none, or is one too many.
pub record IsFirstBadLine (geometry : Geometry) (text : List ℕ) (number : ℕ) : Type 0 where
  pub place : ℕ
  pub numbered : number ≡ place + 1
  pub within : place < length (text_lines text)
  pub lines : List ScriptLine
  pub before : AreLinesOf geometry (take place (text_lines text)) lines
  pub bad : (place ≡ MOST_SCRIPT_LINES) ⊎ HoldsOfNone (ReadsAs geometry (get_or (text_lines text) place []))

-- why a text isn't read: its first bad line, or want of memory
abbrev pub IsRefusedBy : Geometry → List ℕ → ScriptFault → Type 0
IsRefusedBy geometry text (fault.Line number) = IsFirstBadLine geometry text number
IsRefusedBy geometry text fault.Memory = Unit {0}
IsRefusedBy geometry text fault.Writer = ⊥
