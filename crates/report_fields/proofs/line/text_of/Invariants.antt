use Rattle.std.proofs.Common.{◌≡◌, map, take}
use Rattle.std.specs.String.{string_bytes}
use Rattle.report_fields.specs.Fields.{line_of}
use Rattle.report_fields.specs.Parts.{field_of}
use Rattle.report_fields.proofs.line.text_of.Given as goal

abbrev pub invariant-loop-part : goal.invariant-loop-part
invariant-loop-part l = string_bytes l.text ≡ line_of (map field_of (take l.part-index l.parts))
