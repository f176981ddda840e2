use Rattle.std.proofs.Common.{codes, map, take}
use Rattle.report_fields.specs.Parts.{AreTold}
use Rattle.report_json.specs.Crashes.{row_fields}
use Rattle.report_json.proofs.crashes.tell_rows.Given as goal

abbrev pub invariant-loop-row : goal.invariant-loop-row
invariant-loop-row l = AreTold (codes "outcome") (map row_fields (take l.row-index l.rows)) l.told.items
