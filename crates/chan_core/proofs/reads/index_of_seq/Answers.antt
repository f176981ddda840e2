use Rattle.std.proofs.Common.{◌≡◌, ℕ, ltb, ap, ◌∙◌, sym, arith, rules}
use Rattle.std.proofs.lemmas.List.Sorted.{IsPartitionPoint-from_clause}
use Rattle.std.proofs.lemmas.Option.{slice_get_within}
use Rattle.frfcfs.proofs.Lists.{one_at}
use Rattle.wpq_core.proofs.Numbers.{only_there, rise_parted}
use Rattle.chan_core.proofs.Common.{OpenRead}
use Rattle.chan_core.proofs.reads.index_of_seq.Goals as goal

pub returns-clause-within : goal.returns-clause-within
returns-clause-within c =
    let (i, read, at, is) = c.requires.waits in
    let reads = c.args.reads.now in
    let index = c.partition_point.result in
    let seq = λ (r : OpenRead). r.seq in
    let parts = IsPartitionPoint-from_clause (λ (r : OpenRead). ltb r.seq c.args.seq) reads index c.partition_point.ensures.partitioned (rise_parted seq reads c.requires.rise c.args.seq) (λ a r q k. search rules) in
    let there : i ≡ index = only_there seq reads c.requires.rise c.args.seq index i read parts at is in
    omega (arith, there, slice_get_within reads i read at)

pub returns-clause-is : goal.returns-clause-is
returns-clause-is c read here =
    let (i, own, at, is) = c.requires.waits in
    let reads = c.args.reads.now in
    let index = c.partition_point.result in
    let seq = λ (r : OpenRead). r.seq in
    let parts = IsPartitionPoint-from_clause (λ (r : OpenRead). ltb r.seq c.args.seq) reads index c.partition_point.ensures.partitioned (rise_parted seq reads c.requires.rise c.args.seq) (λ a r q k. search rules) in
    let there : i ≡ index = only_there seq reads c.requires.rise c.args.seq index i own parts at is in
    ap seq (one_at reads index i read own here at (sym there)) ∙ is
