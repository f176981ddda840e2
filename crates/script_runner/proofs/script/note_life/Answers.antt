use Rattle.std.proofs.Common.{◌≡◌, ◌∙◌, ap, subst, sym}
use Rattle.std.proofs.lemmas.Option.{same_Some}
use Rattle.std.specs.Option.{option_map}
use Rattle.module_core.specs.declared.module.Module.{Module}
use Rattle.script_runner.specs.Issued.{LifeKeepsRules}
use Rattle.script_runner.proofs.script.note_life.Goals as goal

pub returns-in-Some-clause-rules : goal.returns-in-Some-clause-rules
returns-in-Some-clause-rules g c it runs =
    let found = c.in-Some.life.now in
    let same : found ≡ it = same_Some found it (ap (option_map (λ life. life.now)) (sym c.in-Some.is) ∙ c.life.ensures ∙ runs) in
    subst (λ (life : Module _ g.K.ChannelPort). LifeKeepsRules g.K.ChannelPort life) same c.end.ensures.rules
