use Rattle.std.proofs.Common.{flat_map, map, take}
use Rattle.answer_json.specs.Lines.{IsLineOf, piece_text}
use Rattle.answer_json.specs.Told.{pieces_of}
use Rattle.answer_json.proofs.line.text_of.Given as goal

abbrev pub invariant-loop-part : goal.invariant-loop-part
invariant-loop-part l = IsLineOf (map piece_text (flat_map pieces_of (take l.part-index l.parts))) l.line
