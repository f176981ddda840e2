use Rattle.std.proofs.Common.{◌∙◌, ℕ, List, ap, subst}
use Rattle.std.proofs.lemmas.Bool.{eqb-true}
use Rattle.ddr4_timing.specs.Limits.{lines_of}
use Rattle.open_life.specs.Begins.{Begins}
use Rattle.open_life.specs.Now.{now_of}
use Rattle.reply_codes.specs.Codes.{told_code}
use Rattle.panguhero_c.proofs.Refusing.{refused_opening, refused_told}
use Rattle.panguhero_c.proofs.SettingUp.{of_text, opens_store}
use Rattle.panguhero_c.proofs.opening.open_on.Goals as goal

pub returns-in-Ok-clause-opens : goal.returns-in-Ok-clause-opens
returns-in-Ok-clause-opens c = λ text is.
    let profile = c.args.profile.now in let wires = c.in-Some.wires in let opened = c.in-Ok.opened in let known = c.in-Ok.ensures in
    opens_store text profile wires opened.life _ c.args.format _ opened.found
    (of_text text profile wires opened.life known.profile is c.in-Some.ensures.profile c.in-Some.ensures.map c.in-Some.ensures.costs known.setup known.level)
    known.profile c.found_told-told.ensures (λ formatted. eqb-true c.args.format 1 (known.asked formatted))
    (subst (λ (bytes : List ℕ). Begins _ (lines_of profile.checked.geometry) opened.found bytes (now_of opened.life)) c.passing.ensures.bytes known.begins)

pub returns-in-Err-clause-refused : goal.returns-in-Err-clause-refused
returns-in-Err-clause-refused c = refused_told c.code-in-Err.result _ (c.code-in-Err.ensures ∙ ap told_code c.open_code.ensures) (refused_opening c.in-Err.fault)
