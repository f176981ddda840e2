use Rattle.std.proofs.Common.{ltb, sym, rules}
use Rattle.std.proofs.lemmas.List.Sorted.{IsPartitionPoint-from_clause}
use Rattle.frfcfs.proofs.Common.{Key}
use Rattle.frfcfs.proofs.Halves.{only_there, rise_parted}
use Rattle.frfcfs.proofs.noted_look.Soon.best.Goals as goal

pub returns-clause-place : goal.returns-clause-place
returns-clause-place c early i k at is =
    let keys = c.args.keys.now in
    let t = c.args.self.now.seq in
    let place = c.partition_point.result in
    let parts = IsPartitionPoint-from_clause (λ (x : Key). ltb x.seq t) keys place c.partition_point.ensures.partitioned (rise_parted keys c.requires t) (λ a r q m. search rules) in
    sym (only_there keys c.requires t place i k parts at is)
