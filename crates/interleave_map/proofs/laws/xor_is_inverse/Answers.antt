use Rattle.interleave_map.proofs.Exchange.{xor_is_inverse}
use Rattle.interleave_map.proofs.laws.xor_is_inverse.Goals as goal

pub returns : goal.returns
returns c checked = xor_is_inverse checked.geometry checked.is_small checked.is_geometry
