use Rattle.std.proofs.Common.{codes, flat_map, map, take}
use Rattle.std.specs.Option.{option_to_list}
use Rattle.report_fields.specs.Parts.{AreTold}
use Rattle.report_json.specs.Meanings.{save_fields}
use Rattle.report_json.proofs.meanings.tell_saves.Given as goal

abbrev pub invariant-loop-pending : goal.invariant-loop-pending
invariant-loop-pending l =
    AreTold (codes "save") (map (save_fields l.meaning.costs) (flat_map option_to_list (take l.pending-index l.pending-items))) l.saves.items
