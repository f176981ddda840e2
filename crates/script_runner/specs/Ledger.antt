-- What a reader of the answers knows of the memory, and which answers are true by it.
use Rattle.std.specs.Prelude.{◌≡◌, ℕ, ◌≤◌, max, Bool, true, false, List, [], ◌∷◌, ◌++◌, length, take, Option, Some, None}
use Rattle.std.specs.Option.{option_map}
use Rattle.line_memory.specs.declared.Write.{Write}
use Rattle.line_memory.specs.Memory.{after, zero_lines, line_of}
use Rattle.slot_store.specs.Told.{IsFailure}
use Rattle.slot_store.specs.declared.restoring.Verdict.TheVariants.{Complete}
use Rattle.nv_script.specs.declared.line.ScriptLine.{ScriptLine}
use Rattle.nv_script.specs.declared.line.ScriptLine.TheVariants as line
use Rattle.nv_script.specs.declared.answer.Answer.{Answer}
use Rattle.nv_script.specs.declared.answer.Answer.TheVariants as answer
use Rattle.arm_state.specs.declared.loss.Loss.TheVariants as lost

-- the writes that were accepted since the device was formatted, without those that a restore didn't find, how many of them
-- were told to be persistent, and whether a life runs
pub record Ledger : Type 0 where
  pub writes : List Write
  pub told : ℕ
  pub runs : Bool

-- the one of a device that was formatted
abbrev pub blank : Ledger
blank = record { writes = []; told = 0; runs = true }

-- the memory after its writes, of so many lines
abbrev pub memory_by : ℕ → Ledger → List (List ℕ)
memory_by lines ledger = after (zero_lines lines) ledger.writes

-- up to which number an answer tells that writes are persistent
abbrev pub told_by : Answer → ℕ
told_by (answer.Accepted number mark) = mark
told_by (answer.Saved generation count) = count
told_by (answer.Lost (lost.Saved generation count)) = count
told_by (answer.Mark mark) = mark
told_by other = 0

-- the writes that an answer to a line adds
abbrev pub accepted_by : ScriptLine → Answer → List Write
accepted_by (line.Write write) (answer.Accepted number mark) = write ∷ []
accepted_by asked other = []

abbrev pub grown : ScriptLine → Answer → Ledger → Ledger
grown asked given ledger = record ledger { writes = ledger.writes ++ accepted_by asked given; told = max ledger.told (told_by given) }

-- what a restore found of it: its first writes, which are persistent
abbrev pub first_of : ℕ → Ledger → Ledger
first_of count ledger = record { writes = take count ledger.writes; told = count; runs = true }

-- the same where none was begun
abbrev pub at_rest : Ledger → Ledger
at_rest ledger = record ledger { runs = false }

-- What is known after an answer. After a format that failed nothing is.
abbrev pub known_behind : ScriptLine → Answer → Option Ledger → Option Ledger
known_behind asked answer.Formatted known = Some blank
known_behind asked answer.FormatFault known = None
known_behind asked (answer.Restored generation count verdict) known = option_map (first_of count) known
known_behind asked (answer.RestoreRefused error) known = option_map at_rest known
known_behind asked given known = option_map (grown asked given) known

-- An answer is true by what was known. A write's number is its place among the accepted writes, a read has its line of the
-- memory after them, and while a life runs no mark is below what was told. A restore finds a prefix of them, called complete
-- one that holds all that were told to be persistent; and only a fault of the device or want of memory refuses it.
abbrev pub IsTrueBy : ℕ → Answer → Ledger → Type 0
IsTrueBy lines (answer.Accepted number mark) ledger = (number ≡ length ledger.writes) × (ledger.told ≤ mark)
IsTrueBy lines (answer.Content at bytes) ledger = bytes ≡ line_of (memory_by lines ledger) at
IsTrueBy lines (answer.Mark mark) ledger = ledger.runs ≡ true → ledger.told ≤ mark
IsTrueBy lines (answer.Restored generation count verdict) ledger = (count ≤ length ledger.writes) × (verdict ≡ Complete → ledger.told ≤ count)
IsTrueBy lines (answer.RestoreRefused error) ledger = IsFailure error
IsTrueBy lines other ledger = Unit {0}

-- the answer is one to this line, whose numbers it repeats
abbrev pub IsOfLine : ScriptLine → Answer → Type 0
IsOfLine line.Format answer.Formatted = Unit {0}
IsOfLine line.Format answer.FormatFault = Unit {0}
IsOfLine (line.Write write) (answer.Accepted number mark) = Unit {0}
IsOfLine (line.Write write) (answer.WriteRefused refusal) = Unit {0}
IsOfLine (line.Read at) (answer.Content which bytes) = which ≡ at
IsOfLine (line.Read at) (answer.ReadWaiting which) = which ≡ at
IsOfLine (line.Read at) (answer.ReadRefused refusal) = Unit {0}
IsOfLine (line.Work channel most) (answer.Issued which command) = which ≡ channel
IsOfLine (line.Work channel most) (answer.Idle which) = which ≡ channel
IsOfLine (line.Sense level) (answer.Level reading mode) = Unit {0}
IsOfLine line.Arm answer.Armed = Unit {0}
IsOfLine line.Arm answer.ArmedAlready = Unit {0}
IsOfLine line.Arm answer.ArmFault = Unit {0}
IsOfLine line.Arm (answer.ArmRefused refusal) = Unit {0}
IsOfLine line.Disarm answer.Disarming = Unit {0}
IsOfLine line.Disarm answer.DisarmedAlready = Unit {0}
IsOfLine line.Disarm (answer.DisarmRefused refusal) = Unit {0}
IsOfLine line.Save (answer.Saved generation count) = Unit {0}
IsOfLine line.Save answer.Waiting = Unit {0}
IsOfLine line.Save answer.StepDisarming = Unit {0}
IsOfLine line.Save answer.SaveFault = Unit {0}
IsOfLine line.Save (answer.SaveRefused refusal) = Unit {0}
IsOfLine line.Step (answer.Stepped made) = Unit {0}
IsOfLine line.Step (answer.Saved generation count) = Unit {0}
IsOfLine line.Step answer.Waiting = Unit {0}
IsOfLine line.Step answer.StepDisarming = Unit {0}
IsOfLine line.Step answer.StepRetry = Unit {0}
IsOfLine line.Step answer.SaveFault = Unit {0}
IsOfLine line.Step (answer.SaveRefused refusal) = Unit {0}
IsOfLine line.Lose (answer.Lost loss) = Unit {0}
IsOfLine (line.Lie units) (answer.Lie which) = which ≡ units
IsOfLine (line.Fuse calls) (answer.Fuse which) = which ≡ calls
IsOfLine (line.OneFault call) (answer.OneFault which) = which ≡ call
IsOfLine (line.Restore pick map) (answer.Restored generation count verdict) = Unit {0}
IsOfLine (line.Restore pick map) (answer.RestoreRefused error) = Unit {0}
IsOfLine line.Mark (answer.Mark mark) = Unit {0}
IsOfLine asked given = ⊥

-- An answer to a line is true: one to it, and by what was known, where anything was, it is true and tells of no more
-- persistent writes than are accepted.
pub record IsTrueOf (lines : ℕ) (known : Option Ledger) (asked : ScriptLine) (given : Answer) : Type 0 where
  pub of : IsOfLine asked given
  pub holds : (ledger : Ledger) → known ≡ Some ledger → IsTrueBy lines given ledger
  pub within : (ledger : Ledger) → known_behind asked given known ≡ Some ledger → told_by given ≤ length ledger.writes
