-- What holds of a line of a script that was read.
use Rattle.std.specs.Prelude.{◌<◌}
use Rattle.ddr4_timing.specs.declared.timing.Geometry.{Geometry}
use Rattle.nv_script.specs.declared.line.ScriptLine.{ScriptLine}
use Rattle.nv_script.specs.declared.line.ScriptLine.TheVariants as line

-- the channel that a line names is there
abbrev pub NamesChannelOf : Geometry → ScriptLine → Type 0
NamesChannelOf geometry (line.Work channel most) = channel < geometry.channels
NamesChannelOf geometry other = Unit {0}
