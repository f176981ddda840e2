use Rattle.interleave_map.proofs.map.MapLineMap.place.Goals as goal

pub returns : goal.returns
returns g c = c.requires.lawful.place c.args.line c.split.result c.requires.line c.split.ensures
