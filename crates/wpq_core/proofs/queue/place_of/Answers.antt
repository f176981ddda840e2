use Rattle.std.proofs.Common.{◌≡◌, ℕ, true, length, get_or, ltb, lt-ltb, sym, ap, ◌∙◌, arith, rules}
use Rattle.std.proofs.lemmas.List.Sorted.{IsPartitionPoint-from_clause}
use Rattle.std.proofs.lemmas.Option.{get_or_from_slice_get, slice_get_within}
use Rattle.wpq_core.specs.declared.queue.PendingWrite.{PendingWrite}
use Rattle.wpq_core.proofs.Numbers.{only_there, rise_parted}
use Rattle.wpq_core.proofs.queue.place_of.Goals as goal

pub returns-in_err-pending : goal.returns-in_err-pending
returns-in_err-pending c =
    let writes = c.args.writes.now in
    let place = c.partition_point-place.result in
    let number = λ (w : PendingWrite). w.number in
    let parts = IsPartitionPoint-from_clause (λ (w : PendingWrite). ltb w.number c.args.number) writes place c.partition_point-place.ensures.partitioned (rise_parted number writes c.requires c.args.number) (λ a r q k. search rules) in
    rw c.from_residual.ensures (λ i w at is.
    let there : i ≡ place = only_there number writes c.requires c.args.number place i w parts at is in
    let within : ltb place (length writes) ≡ true = lt-ltb place (length writes) (omega (arith, there, slice_get_within writes i w at)) in
    absurd (cc (within, c.in_err-pending.ensures.lookup.0)))

pub returns-else-pending-number : goal.returns-else-pending-number
returns-else-pending-number c i w at is =
    let writes = c.args.writes.now in
    let place = c.partition_point-place.result in
    let number = λ (v : PendingWrite). v.number in
    let parts = IsPartitionPoint-from_clause (λ (v : PendingWrite). ltb v.number c.args.number) writes place c.partition_point-place.ensures.partitioned (rise_parted number writes c.requires c.args.number) (λ a r q k. search rules) in
    let there : i ≡ place = only_there number writes c.requires c.args.number place i w parts at is in
    let own : c.in_ok-pending.pending.now ≡ w = c.in_ok-pending.ensures.lookup.1 ∙ (ap (λ (n : ℕ). get_or writes n c.in_ok-pending.pending.now) (sym there) ∙ get_or_from_slice_get writes i w c.in_ok-pending.pending.now at) in
    c.if-pending-number.false (ap number own ∙ is)
