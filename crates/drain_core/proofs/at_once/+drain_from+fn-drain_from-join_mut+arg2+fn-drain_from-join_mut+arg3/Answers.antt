use Rattle.std.proofs.Common.{rules}
use Rattle.std.proofs.lemmas.List.{map-append}
use Rattle.drain_core.proofs.JoinedReports.{reports_join}
use Rattle.drain_core.proofs.JoinedWaits.{waits_join}
use Rattle.worker_turns.specs.Waiting.{AwaitsTurn}
use Rattle.drain_core.proofs.at_once.+drain_from+fn-drain_from-join_mut+arg2+fn-drain_from-join_mut+arg3.Goals as goal

-- what is done to each half is done to all
pub returns-clause-drains : goal.returns-clause-drains
returns-clause-drains g t c =
    let ends = c.join_mut.ensures in
    let halves = c.split_at_mut-left.ensures in (
      search (rules, map-append, ends.0.met.1.0.0, ends.1.met.1.0.0, halves.value),
      reports_join c.args.costs.now.numbers c.args.channels.now _ _ _ _ c.joined.result _ halves.value halves.front_len ends.0.met.1.0.1 ends.1.met.1.0.1 c.joined.ensures.first c.joined.ensures.then,
    )

-- each half waited at its places
pub returns-clause-asked : goal.returns-clause-asked
returns-clause-asked g t c =
    let ends = c.join_mut.ensures in
    let halves = c.split_at_mut-left.ensures in
    waits_join (λ i. AwaitsTurn g.G.Gate i c.args.gate.now) _ c.args.channels.now _ _ c.args.first _ halves.value halves.front_len ends.0.met.1.1 ends.1.met.1.1
