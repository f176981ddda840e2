use Rattle.std.proofs.Common.{rules, ◌≡◌, ◌∙◌, ap, map}
use Rattle.serde_json.specs.View.{members_view}
use Rattle.serde_json.specs.Written.{members_have_float}
use Rattle.report_fields.proofs.NoFloats.{told_none}
use Rattle.report_fields.specs.Fields.{members_by}
use Rattle.report_fields.specs.Parts.{field_of}
use Rattle.report_fields.proofs.object.members_of.Goals as goal

pub returns-clause-whole : goal.returns-clause-whole
returns-clause-whole c =
    let is : members_view c.put_parts.new.members.entries ≡ members_by c.args.kind.now (map field_of c.args.parts.now) = search rules in
    ap members_have_float is ∙ told_none c.args.kind.now c.args.parts.now
