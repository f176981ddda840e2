use Rattle.std.proofs.Common.{refl, ◌∙◌}
use Rattle.auto_precharge.specs.Unfolding.{settled, unfolded}
use Rattle.command_trace.proofs.why.why_last.Goals as goal

pub returns-then-admits-clause-none : goal.returns-then-admits-clause-none
returns-then-admits-clause-none c lawful =
    let behind = settled c.args.last.now.command.clock (unfolded c.args.rules.now.timing c.args.before.now) in
    let may = (c.if-admits.ensures.next behind (c.in_ok-full.ensures lawful).stands).0 refl in
    (λ _. record { next = may.0; is_open = may.1 }, λ _. refl)

pub returns-clause-none : goal.returns-clause-none
returns-clause-none c lawful =
    let behind = settled c.args.last.now.command.clock (unfolded c.args.rules.now.timing c.args.before.now) in
    let admits = c.if-admits.ensures.next behind (c.in_ok-full.ensures lawful).stands in
    (λ e. absurd cc, λ may. absurd (let yes = admits.1 (may.next, may.is_open) in cc))

pub returns-clause-fault : goal.returns-clause-fault
returns-clause-fault c lawful =
    let behind = settled c.args.last.now.command.clock (unfolded c.args.rules.now.timing c.args.before.now) in
    let full = c.in_ok-full.ensures lawful in
    c.told_of.ensures behind (c.deref.ensures.value ∙ full.commands) (c.deref-2.ensures.value ∙ full.lines)
    (λ both. absurd (let yes = (c.if-admits.ensures.next behind full.stands).1 both in cc))
