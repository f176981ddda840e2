-- What is read of a journal in a module.
use Rattle.std.specs.Prelude.{◌≡◌, ◌-◌, ℕ, List, Result, Ok, Err, Some, length, slice_get}
use Rattle.line_memory.specs.Memory.{line_of}
use Rattle.arm_state.specs.declared.refusal.ReadRefusal.{ReadRefusal}
use Rattle.nv_machine.specs.declared.events.Event.{Event}
use Rattle.nv_machine.specs.declared.events.Reply.{Reply}
use Rattle.nv_machine.specs.Refusals.{read_refusal}
use Rattle.nv_machine.specs.State.{Machine, Setup, memory_of}
use Rattle.nv_session.specs.Turns.{SameButWaits}
use Rattle.journal_log.specs.Log.{Holds, Log}
use Rattle.journal_lines.specs.declared.index.Index.{Index}
use Rattle.journal_lines.specs.Indexed.{IsIndexOf}
use Rattle.journal_reads.specs.declared.reading.NotRead.{NotRead}
use Rattle.journal_reads.specs.declared.reading.NotRead.TheVariants as why

-- a line was refused so, where nothing had changed since but what waits
pub record IsLineRefused (setup : Setup) (refusal : ReadRefusal) (old : Machine) : Type 0 where
  pub line : ℕ
  pub now : Machine
  pub same : SameButWaits old now
  pub refused : read_refusal setup now line ≡ Some refusal

-- a refusal is the module's own
abbrev pub IsWhy : Setup → NotRead → Machine → Type 0
IsWhy setup why.Memory old = Unit {0}
IsWhy setup why.Waiting old = Unit {0}
IsWhy setup (why.Refused refusal) old = IsLineRefused setup refusal old

-- a record isn't read, or a line of one: nothing has changed but what waits
pub record IsNotRead (setup : Setup) (reason : NotRead) (events : List Event) (replies : List Reply) (old new : Machine) : Type 0 where
  pub same : SameButWaits old new
  pub is : IsWhy setup reason old

-- a line is read: these are its bytes after all accepted writes, which stay what they were
abbrev pub IsLineRead : Setup → ℕ → Result (List ℕ) NotRead → List Event → List Reply → Machine → Machine → Type 0
IsLineRead setup line (Ok bytes) events replies old new = (bytes ≡ line_of (memory_of old) line) × SameButWaits old new
IsLineRead setup line (Err reason) events replies old new = IsNotRead setup reason events replies old new

-- A record is read: these are its bytes, whatever journal of this index the memory after all accepted writes holds.
pub record ReadsRecord (index : Index) (number : ℕ) (bytes : List ℕ) (events : List Event) (replies : List Reply) (old new : Machine) : Type 0 where
  pub same : SameButWaits old new
  pub is : (log : Log) → IsIndexOf index log → Holds (memory_of old) log → length (memory_of old) ≡ index.lines
      → slice_get log.records (number - log.gone) ≡ Some bytes
