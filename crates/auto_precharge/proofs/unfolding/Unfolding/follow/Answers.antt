use Rattle.std.proofs.Common.{refl}
use Rattle.auto_precharge.specs.Unfolding.{settled}
use Rattle.auto_precharge.proofs.Settling.{not_early}
use Rattle.auto_precharge.proofs.unfolding.Unfolding.follow.Goals as goal

pub returns-then-not-admits-clause-tells : goal.returns-then-not-admits-clause-tells
returns-then-not-admits-clause-tells c u s =
    let admits = c.if-not-admits.ensures.next (settled c.args.next.now.command.clock u) (c.settle.ensures u s) in
    (λ e. absurd cc, λ may. absurd (let yes = admits.1 (may.next, may.is_open) in cc))

pub returns-clause-tells : goal.returns-clause-tells
returns-clause-tells c u s =
    let may = (c.if-not-admits.ensures.next (settled c.args.next.now.command.clock u) (c.settle.ensures u s)).0 refl in
    (λ _. record { next = may.0; is_open = may.1 }, λ _. refl)

pub returns-clause-goes : goal.returns-clause-goes
returns-clause-goes c u s _ =
    let behind = settled c.args.next.now.command.clock u in
    let stands = c.settle.ensures u s in
    let may = (c.if-not-admits.ensures.next behind stands).0 refl in
    c.go.ensures behind stands (not_early c.args.rules.now.timing c.args.rules.now.geometry behind.list c.args.next.now.command may.0)
