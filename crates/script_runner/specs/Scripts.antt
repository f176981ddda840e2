-- What is made of a text that is to be run.
use Rattle.std.specs.Prelude.{◌≡◌, ◌⊎◌, ℕ, List}
use Rattle.ddr4_timing.specs.declared.timing.Geometry.{Geometry}
use Rattle.ddr4_timing.specs.Limits.{lines_of}
use Rattle.save_device.specs.declared.memory.MemoryDevice.{MemoryDevice}
use Rattle.channel_port.specs.declared.port.ChannelPort.{Ghosts}
use Rattle.nv_profile.specs.declared.profile.Profile.{Profile}
use Rattle.nv_session.specs.declared.wires.Wires as wires
use Rattle.nv_script.specs.declared.line.ScriptLine.{ScriptLine}
use Rattle.nv_script.specs.declared.answer.Answer.{Answer}
use Rattle.nv_script.specs.declared.reading.ScriptFault.{ScriptFault}
use Rattle.nv_script.specs.declared.reading.ScriptFault.TheVariants as fault
use Rattle.nv_script.specs.Texts.{IsFirstBadLine, IsScript}
use Rattle.script_runner.specs.Runs.{IsRun}
use Rattle.script_runner.specs.Story.{AreCutShort, EndsBy}

-- the text is a script, and its lines were run
pub record RunsScript {K A : Type 0} (L : Ghosts K) (W : wires.Ghosts A K) (Wired : A → Type 0) (profile : Profile) (text : List ℕ) (before after : List Answer) (device : MemoryDevice) : Type 0 where
  pub lines : List ScriptLine
  pub script : IsScript profile.checked.geometry text lines
  pub runs : IsRun L W Wired profile lines before after device

-- it is a script, and the first of its lines were run, of which the last may lack answers
pub record CutsScript (geometry : Geometry) (text : List ℕ) (before after : List Answer) : Type 0 where
  pub lines : List ScriptLine
  pub script : IsScript geometry text lines
  pub cut : AreCutShort (lines_of geometry) lines before after

-- Why the run of a text came to no end: by its first line that is none, and then no line was run; else there was no memory for its
-- lines, or their run came to none.
abbrev pub EndsScript : Geometry → List ℕ → ScriptFault → List Answer → List Answer → Type 0
EndsScript geometry text (fault.Line number) before after = IsFirstBadLine geometry text number × (after ≡ before)
EndsScript geometry text other before after = (after ≡ before) ⊎ CutsScript geometry text before after

-- and by which fault of its report
abbrev pub EndsScriptBy : ScriptFault → List ScriptFault → List ScriptFault → Type 0
EndsScriptBy (fault.Line number) old new = new ≡ old
EndsScriptBy why old new = EndsBy why old new

-- the same of a text whose answers are written
abbrev pub IsBadText : Geometry → List ℕ → ScriptFault → Type 0
IsBadText geometry text (fault.Line number) = IsFirstBadLine geometry text number
IsBadText geometry text other = Unit {0}
