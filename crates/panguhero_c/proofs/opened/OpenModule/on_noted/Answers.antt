use Rattle.std.proofs.Common.{ℕ, List, subst}
use Rattle.panguhero_c.specs.Calls.{OpensStore}
use Rattle.panguhero_c.proofs.opened.OpenModule.on_noted.Goals as goal

pub returns-in-Ok-open_on-clause-opens : goal.returns-in-Ok-open_on-clause-opens
returns-in-Ok-open_on-clause-opens c =
    let text = c.args.text.now in let store = c.in-Ok-open_on.store in
    subst (λ (bytes : List ℕ). OpensStore text bytes c.args.format store.told store.opened.life) c.in-Some.ensures (c.in-Ok-open_on.ensures.opens text c.in-Ok.ensures.ok)
