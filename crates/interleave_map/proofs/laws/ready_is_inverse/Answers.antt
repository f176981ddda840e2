use Rattle.interleave_map.proofs.ReadyMaps.{ready_is_inverse}
use Rattle.interleave_map.proofs.laws.ready_is_inverse.Goals as goal

pub returns : goal.returns
returns c = ready_is_inverse
