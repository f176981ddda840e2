use Rattle.std.proofs.Common.{length}
use Rattle.frfcfs.proofs.Common.{limit_of}
use Rattle.frfcfs.proofs.NextChoice.{best_in_turn}
use Rattle.frfcfs.proofs.search.search.Goals as goal

pub first_of-requires-clause-found : goal.first_of-requires-clause-found
first_of-requires-clause-found c = let found = c.soonest_requests-bests.ensures.found in (found.0, λ _. found.1)

pub first_of-requires-clause-best : goal.first_of-requires-clause-best
first_of-requires-clause-best c list s =
    best_in_turn c.args.banks.now.checked list c.args.pending.now c.args.now c.args.last (limit_of c.args.last) (length c.args.pending.now) c.soonest_requests-bests.result (c.soonest_requests-bests.ensures.best list s (c.requires.hits list s))
