use Rattle.std.proofs.Common.{refl}
use Rattle.interleave_map.specs.Interleaving.{exchanged_place}
use Rattle.interleave_map.proofs.xor.exchanged_place.Goals as goal

pub returns : goal.returns
unfolding exchanged_place
returns c = refl
