use Rattle.std.proofs.Common.{◌≡◌, flat_map, take}
use Rattle.serde_json.specs.View.{members_view}
use Rattle.answer_json.specs.Told.{pieces_of, with_pieces}
use Rattle.answer_json.proofs.told.put_parts.Given as goal

abbrev pub invariant-loop-part : goal.invariant-loop-part
invariant-loop-part l =
    members_view l.map.entries ≡ with_pieces (members_view l.fn.map.entries) (flat_map pieces_of (take l.part-index l.parts))
