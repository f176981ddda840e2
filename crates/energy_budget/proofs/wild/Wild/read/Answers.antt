use Rattle.std.proofs.Common.{◌≡◌, ℕ, ap, ◌∙◌, arith}
use Rattle.std.proofs.lemmas.Grind.{common_steps}
use Rattle.std.specs.Prelude.{Option, unwrap_or, slice_get}
use Rattle.std.specs.Vec.Iter.{into_iter_items}
use Rattle.energy_budget.proofs.wild.Wild.read.Goals as goal

pub returns-clause-word : goal.returns-clause-word
returns-clause-word c =
    let first : c.next.result ≡ slice_get (into_iter_items c.args.self.now.words) 0 = grind (arith, common_steps) in
    c.unwrap_or-word.ensures ∙ ap (λ (word : Option ℕ). unwrap_or word 0) first
