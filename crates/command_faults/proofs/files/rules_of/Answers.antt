use Rattle.std.proofs.Common.{List, ℕ, subst}
use Rattle.nv_profile.specs.Profile.{IsNumbersText}
use Rattle.command_faults.proofs.files.rules_of.Goals as goal

pub returns-in-Ok-clause-named : goal.returns-in-Ok-clause-named
returns-in-Ok-clause-named g c =
    let numbers = c.in-Ok.numbers in
    let said = subst (λ (text : List ℕ). IsNumbersText text numbers) c.deref.ensures.value c.in-Ok.ensures.ok in
    (numbers, (c.in_ok-text.text.items, c.in_ok-text.ensures.text, said), c.rules.ensures.timing, c.rules.ensures.geometry)
