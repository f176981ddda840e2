use Rattle.std.proofs.Common.{ap, ◌∙◌}
use Rattle.interleave_map.specs.Interleaving.{exchanged_place, place_by_xor}
use Rattle.interleave_map.proofs.xor.split.Goals as goal

pub returns : goal.returns
unfolding place_by_xor
returns c = c.exchanged_place.ensures ∙ ap (exchanged_place c.args.checked.now.geometry) c.split.ensures
