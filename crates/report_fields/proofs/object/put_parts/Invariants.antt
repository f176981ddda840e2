use Rattle.std.proofs.Common.{◌≡◌, map, take}
use Rattle.serde_json.specs.View.{members_view}
use Rattle.report_fields.specs.Fields.{with_fields}
use Rattle.report_fields.specs.Parts.{field_of}
use Rattle.report_fields.proofs.object.put_parts.Given as goal

abbrev pub invariant-loop-part : goal.invariant-loop-part
invariant-loop-part l =
    members_view l.members.entries ≡ with_fields (members_view l.fn.members.entries) (map field_of (take l.part-index l.parts))
