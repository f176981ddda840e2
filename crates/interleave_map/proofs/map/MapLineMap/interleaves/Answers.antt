use Rattle.interleave_map.proofs.Counting.{closures_interleave}
use Rattle.interleave_map.proofs.map.MapLineMap.interleaves.Goals as goal

pub returns : goal.returns
returns g c = closures_interleave c.requires
