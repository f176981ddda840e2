-- What becomes of a front, and of the machine for which it stands, with the part of one channel.
use Rattle.std.specs.Prelude.{◌≡◌, ℕ, ◌<◌, List, Result, Ok, Err}
use Rattle.line_memory.specs.declared.Write.{Write}
use Rattle.line_memory.specs.Memory.{IsMemory}
use Rattle.line_memory.specs.Parts.{numbered}
use Rattle.arm_state.specs.declared.refusal.ReadRefusal.{ReadRefusal}
use Rattle.arm_state.specs.declared.refusal.WriteRefusal.{WriteRefusal}
use Rattle.channel_log.specs.declared.entry.LogEntry.TheVariants.{Wrote}
use Rattle.channel_log.specs.Log.{IsLogOf, LogNote, log_tells, note_of}
use Rattle.channel_locks.specs.declared.part.Part.{Part}
use Rattle.channel_locks.specs.Stands.{PartStands}
use Rattle.channel_port.specs.declared.answers.Got.{Got}
use Rattle.channel_port.specs.declared.port.ChannelPort.{Ghosts}
use Rattle.channel_port.specs.Shape.{Shape}
use Rattle.module_core.specs.Fronts.{FrontMatches, setup_in}
use Rattle.nv_machine.specs.declared.events.Accepted.{Accepted}
use Rattle.nv_machine.specs.Machine.{ReadStep, WriteStep}
use Rattle.nv_machine.specs.State.{Machine, base_of_life, memory_of, pending_of}
use Rattle.split_module.specs.OwnEvents.{looked}
use Rattle.split_module.specs.Telling.{AreLogsOf, laid_out, waits_told, with_note}
use Rattle.split_module.specs.declared.front.SplitFront.{SplitFront}

-- The front stands for this machine, by the logs of the channels: as many credits are out as writes wait, and it has the numbers of
-- the channels' shape.
pub record SplitStands (shape : Shape) (logs : List (List LogNote)) (front : SplitFront) (m : Machine) : Type 0 where
  pub matches : FrontMatches front.front m
  pub out : front.out ≡ pending_of m
  pub lines : front.lines ≡ shape.lines
  pub costs : front.costs ≡ shape.costs
  pub memory : IsMemory shape.lines (memory_of m)
  pub told : AreLogsOf (setup_in shape front.front) m logs

module _ {K : Type 0} (L : Ghosts K) where
  -- The part is that of the log's channel. With what waits in it now noted, the front stands for the machine in which this waits.
  abbrev pub LooksAt : SplitFront → Part K L → SplitFront → Part K L → Type 0
  LooksAt old part new later = (shape : Shape) (m : Machine) (logs : List (List LogNote)) (base : List (List ℕ)) (log : List LogNote)
      → SplitStands shape logs old m → IsLogOf logs part.channel log → PartStands L part part.channel base log
      → let noted = looked part.channel log (L.view later.port).waits logs in
      SplitStands shape noted new (record m { waits = laid_out (waits_told noted) })

  -- the part has seen what waits in it, which the log tells
  pub record HasBeenSeen (shape : Shape) (part : Part K L) (log : List LogNote) : Type 0 where
    pub waits : (log_tells log).waits ≡ (L.view part.port).waits
    pub depth : (L.view part.port).depth ≡ shape.depth
    pub most_reads : (L.view part.port).most_reads ≡ shape.reads
    pub known : part.channel < shape.channels

  -- what a write to a line of the part's channel makes of the machine
  abbrev pub WroteOn : Shape → SplitFront → Part K L → Write → Result Accepted WriteRefusal → SplitFront → Part K L → Machine → List (List LogNote) → List LogNote → Type 0
  WroteOn shape old part write (Ok accepted) new later m logs log =
      let noted = with_note part.channel log (note_of (Wrote (numbered accepted.number write)) (L.view later.port).waits) logs in
      (n : Machine) × WriteStep (setup_in shape old.front) write (Ok accepted) m n × SplitStands shape noted new n
  WroteOn shape old part write (Err refusal) new later m logs log = WriteStep (setup_in shape old.front) write (Err refusal) m m

  -- A write is one step of whichever machine the front stood for, with what waits noted behind it.
  abbrev pub WritesOn : SplitFront → Part K L → Write → Result Accepted WriteRefusal → SplitFront → Part K L → Type 0
  WritesOn old part write result new later = (shape : Shape) (m : Machine) (logs : List (List LogNote)) (log : List LogNote)
      → SplitStands shape logs old m → IsLogOf logs part.channel log → HasBeenSeen shape part log
      → (write.line < shape.lines → shape.channel_of write.line ≡ part.channel)
      → WroteOn shape old part write result new later m logs log

  -- what a read of a line of the part's channel makes of the machine
  abbrev pub HasReadOn : Shape → SplitFront → Part K L → ℕ → Result Got ReadRefusal → Part K L → Machine → List (List LogNote) → List LogNote → Type 0
  HasReadOn shape front part line (Ok got) later m logs log =
      let noted = looked part.channel log (L.view later.port).waits logs in
      (n : Machine) × ReadStep (setup_in shape front.front) line (Ok got) m n × SplitStands shape noted front n
  HasReadOn shape front part line (Err refusal) later m logs log = ReadStep (setup_in shape front.front) line (Err refusal) m m

  -- A read is one step of whichever machine the front stood for, with what waits noted behind it.
  abbrev pub ReadsOn : SplitFront → Part K L → ℕ → Result Got ReadRefusal → Part K L → Type 0
  ReadsOn front part line result later = (shape : Shape) (m : Machine) (logs : List (List LogNote)) (log : List LogNote)
      → SplitStands shape logs front m → IsLogOf logs part.channel log → HasBeenSeen shape part log
      → PartStands L part part.channel (base_of_life m.life) log
      → (line < shape.lines → shape.channel_of line ≡ part.channel)
      → HasReadOn shape front part line result later m logs log
