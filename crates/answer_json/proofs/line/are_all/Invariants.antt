use Rattle.std.proofs.Common.{◌≡◌, ◌==◌, take, true}
use Rattle.std.specs.List.{list_all}
use Rattle.answer_json.proofs.line.are_all.Given as goal

abbrev pub invariant-loop-here : goal.invariant-loop-here
invariant-loop-here l = list_all (λ here. here == l.byte) (take l.here-index l.bytes) ≡ true
