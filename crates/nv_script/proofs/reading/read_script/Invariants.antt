use Rattle.std.proofs.Common.{All, length, take}
use Rattle.nv_script.specs.Line.{NamesChannelOf}
use Rattle.nv_script.specs.Texts.{AreLinesOf, text_lines}
use Rattle.nv_script.proofs.reading.read_script.Given as goal

abbrev pub invariant-loop-index : goal.invariant-loop-index
invariant-loop-index l = All (NamesChannelOf l.geometry) l.lines.items × AreLinesOf l.geometry (take (length l.yielded) (text_lines l.script)) l.lines.items
