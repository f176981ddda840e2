use Rattle.std.proofs.Common.{◌≡◌, ◌++◌, flat_map, take}
use Rattle.std.specs.String.{string_bytes}
use Rattle.report_fields.specs.Parts.{text_of_told}
use Rattle.report_fields.proofs.line.put_lines.Given as goal

abbrev pub invariant-loop-told : goal.invariant-loop-told
invariant-loop-told l = string_bytes l.text ≡ string_bytes l.fn.text ++ flat_map text_of_told (take l.told-index l.list)
