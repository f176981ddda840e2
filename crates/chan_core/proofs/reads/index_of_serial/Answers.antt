use Rattle.std.proofs.Common.{◌≡◌, ℕ, true, length, get_or, ltb, lt-ltb, sym, ap, ◌∙◌, arith, rules}
use Rattle.std.proofs.lemmas.List.Sorted.{IsPartitionPoint-from_clause}
use Rattle.std.proofs.lemmas.Option.{get_or_from_slice_get, slice_get_within}
use Rattle.wpq_core.proofs.Numbers.{only_there, rise_parted}
use Rattle.chan_core.proofs.Common.{OpenRead}
use Rattle.chan_core.proofs.reads.index_of_serial.Goals as goal

pub returns-in_err-read : goal.returns-in_err-read
returns-in_err-read c =
    let reads = c.args.reads.now in
    let index = c.partition_point-index.result in
    let serial = λ (read : OpenRead). read.serial in
    let parts = IsPartitionPoint-from_clause (λ (read : OpenRead). ltb read.serial c.args.serial) reads index c.partition_point-index.ensures.partitioned (rise_parted serial reads c.requires c.args.serial) (λ a r q k. search rules) in
    rw c.from_residual.ensures (λ i read at is.
    let there : i ≡ index = only_there serial reads c.requires c.args.serial index i read parts at is in
    let within : ltb index (length reads) ≡ true = lt-ltb index (length reads) (omega (arith, there, slice_get_within reads i read at)) in
    absurd (cc (within, c.in_err-read.ensures.lookup.0)))

pub returns-else-read-serial : goal.returns-else-read-serial
returns-else-read-serial c i read at is =
    let reads = c.args.reads.now in
    let index = c.partition_point-index.result in
    let serial = λ (other : OpenRead). other.serial in
    let parts = IsPartitionPoint-from_clause (λ (other : OpenRead). ltb other.serial c.args.serial) reads index c.partition_point-index.ensures.partitioned (rise_parted serial reads c.requires c.args.serial) (λ a r q k. search rules) in
    let there : i ≡ index = only_there serial reads c.requires c.args.serial index i read parts at is in
    let own : c.in_ok-read.read.now ≡ read = c.in_ok-read.ensures.lookup.1 ∙ (ap (λ (n : ℕ). get_or reads n c.in_ok-read.read.now) (sym there) ∙ get_or_from_slice_get reads i read c.in_ok-read.read.now at) in
    c.if-read-serial.false (ap serial own ∙ is)
