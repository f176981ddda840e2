use Rattle.interleave_map.proofs.Counting.{joinable, line_back}
use Rattle.interleave_map.proofs.map.MapLineMap.line.Goals as goal

pub join-requires : goal.join-requires
join-requires g c = joinable c.requires.lawful c.args.place c.requires.place

pub returns-clause-below : goal.returns-clause-below
returns-clause-below g c = (line_back c.requires.lawful c.args.place c.join.result c.requires.place c.join.ensures).0

pub returns-clause-back : goal.returns-clause-back
returns-clause-back g c = (line_back c.requires.lawful c.args.place c.join.result c.requires.place c.join.ensures).1
