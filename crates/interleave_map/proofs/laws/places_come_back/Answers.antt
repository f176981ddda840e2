use Rattle.interleave_map.proofs.Counting.{second_way}
use Rattle.interleave_map.proofs.laws.places_come_back.Goals as goal

pub returns : goal.returns
returns c g split join inverse = second_way inverse
