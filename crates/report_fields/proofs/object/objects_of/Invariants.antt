use Rattle.std.proofs.Common.{◌≡◌, map, take}
use Rattle.serde_json.specs.View.{view}
use Rattle.report_fields.specs.Parts.{data_of_told}
use Rattle.report_fields.proofs.object.objects_of.Given as goal

abbrev pub invariant-loop-told : goal.invariant-loop-told
invariant-loop-told l = map view l.objects.items ≡ map data_of_told (take l.told-index l.list)
