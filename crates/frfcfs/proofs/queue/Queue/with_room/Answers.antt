use Rattle.std.proofs.Common.{ap}
use Rattle.gap_list.specs.Bounded.{Bounded}
use Rattle.frfcfs.proofs.Common.{Pending}
use Rattle.frfcfs.proofs.KeptRequests.{kept_none}
use Rattle.frfcfs.proofs.queue.Queue.with_room.Goals as goal

pub invariant_of-result : goal.invariant_of-result
invariant_of-result c = rw (c.in_ok-with_room.ensures, c.in_ok-with_room-2.ensures) (kept_none c.args.most c.none.result c.none-2.result c.none.ensures c.none-2.ensures)

pub returns : goal.returns
returns c = ap (λ (l : Bounded Pending). record { most = l.most; next = 0; requests = l.items }) c.in_ok-with_room.ensures
