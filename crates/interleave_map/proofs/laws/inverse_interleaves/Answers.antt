use Rattle.interleave_map.proofs.Counting.{functions_interleave}
use Rattle.interleave_map.proofs.laws.inverse_interleaves.Goals as goal

pub returns : goal.returns
returns c g split join inverse = functions_interleave inverse
