use Rattle.std.proofs.lemmas.Option.{slice_get_within}
use Rattle.frfcfs.proofs.Common.{limit_of}
use Rattle.frfcfs.proofs.KeyLemmas.{keys_lie, place_there}
use Rattle.frfcfs.proofs.scan.find_soonest.Goals as goal

pub look_at_each-any-requires-clause-lie : goal.look_at_each-any-requires-clause-lie
look_at_each-any-requires-clause-lie c = keys_lie c.args.banks.now.checked.geometry c.args.pending.now c.args.keys.now c.args.banks.now.checked.is_small c.requires

pub soonest_row-row-requires-clause-noted : goal.soonest_row-row-requires-clause-noted
soonest_row-row-requires-clause-noted c bank h =
    let (request, el) = (c.look_at_each-any.ensures.found c.args.pending.now c.requires).others bank h in
    slice_get_within c.args.pending.now _ request el.0.here

pub soonest_row-row-requires-clause-places : goal.soonest_row-row-requires-clause-places
soonest_row-row-requires-clause-places c index request at = place_there c.args.banks.now.checked.geometry c.args.pending.now c.args.keys.now index request c.requires at

pub returns-clause-any : goal.returns-clause-any
returns-clause-any c = c.look_at_each-any.ensures.any c.args.pending.now c.requires

pub returns-clause-found : goal.returns-clause-found
returns-clause-found c =
    let found = c.look_at_each-any.ensures.found c.args.pending.now c.requires in
    (found.bests.0, c.soonest_row-row.ensures.found (limit_of c.args.last) c.ends-ends.ensures.early found)

pub returns-clause-best : goal.returns-clause-best
returns-clause-best c list s =
    let scanned = c.look_at_each-any.ensures.scanned list c.args.pending.now s (c.ends-ends.ensures.ends list s) c.requires in record {
      column = scanned.column;
      row = c.soonest_row-row.ensures.best list c.args.last (limit_of c.args.last) s (c.ends-ends.ensures.ends list s) c.ends-ends.ensures.early (c.look_at_each-any.ensures.found c.args.pending.now c.requires) scanned;
    }
