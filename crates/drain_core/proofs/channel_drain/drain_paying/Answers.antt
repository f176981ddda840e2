use Rattle.std.proofs.Common.{rules}
use Rattle.drain_core.proofs.PaidDrain.{drains-paid}
use Rattle.drain_core.proofs.channel_drain.drain_paying.Goals as goal

pub returns-clause-drains : goal.returns-clause-drains
returns-clause-drains g c =
    let told = drains-paid (λ p. p.energy.ghost_name) (λ p. g.E.Energy.gauge p.energy.now) (λ p. p.costs) _ (λ old action paid new pays. pays) _ _ _ _ _ c.drain_for.ensures.drains in
    let same = told.0 in
    let pays = told.1 in
    search rules
