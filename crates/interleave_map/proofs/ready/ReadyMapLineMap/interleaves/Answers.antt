use Rattle.interleave_map.proofs.ReadyMaps.{ready_interleaves}
use Rattle.interleave_map.proofs.ready.ReadyMapLineMap.interleaves.Goals as goal

pub returns : goal.returns
returns c = ready_interleaves c.args.self.now.checked c.args.self.now.interleaving
