-- What contracts may know of a channel's contents.
use Rattle.std.proofs.Common.{◌<◌, map, arith}
use Rattle.std.proofs.lemmas.List.{length-map}
use Rattle.chan_core.proofs.Common.{AreContents, AreInOrder, Contents, HasRightContents, cells_of, seen, ticket_of}
use Rattle.chan_core.proofs.Serving.{line-within, request-of}
use Rattle.chan_core.proofs.Taken.{all-of, all-pairs}
use Rattle.chan_core.proofs.Telling.{read-of-ticket}

pub right-contents : (s : Contents) → AreContents s → AreInOrder s.waiting.requests → HasRightContents (seen s)
right-contents s is order = record {
  array = is.array;
  writes = is.queue;
  cells = all-of (λ w. w.write.line < cells_of s.checked.geometry) s.queue.writes (λ i w at. let (o, line) = request-of s is i w at in omega (arith, line, line-within s is o.place o.element o.at, is.array.size));
  order = order;
  right = is.right;
  queued = is.writes;
  serials = record {
    rise = all-pairs (λ t u. t.serial < u.serial) (map (ticket_of s.array) s.reads) (λ i j t u less at at'.
        let a = read-of-ticket s.array s.reads i t at in let b = read-of-ticket s.array s.reads j u at' in omega (arith, is.reads.serials i j a.0 b.0 less a.1 b.1, a.2, b.2));
    below = all-of (λ t. t.serial < s.serial) (map (ticket_of s.array) s.reads) (λ i t at. let a = read-of-ticket s.array s.reads i t at in omega (arith, (is.reads.below i a.0 a.1).0, a.2));
  };
  few_tickets = omega (arith, is.few_reads, length-map s.reads (ticket_of s.array));
  most_reads = is.most;
}
