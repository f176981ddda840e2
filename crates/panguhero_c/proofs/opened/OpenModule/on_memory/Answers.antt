use Rattle.panguhero_c.proofs.SettingUp.{of_text, opens_new}
use Rattle.panguhero_c.proofs.opened.OpenModule.on_memory.Goals as goal

pub returns-in-Ok-open_new-clause-opens : goal.returns-in-Ok-open_new-clause-opens
returns-in-Ok-open_new-clause-opens c =
    let text = c.args.text.now in let profile = c.in-Ok.profile in let wires = c.in-Some.wires in let life = c.in-Ok-open_new.life in let opened = c.in-Ok-open_new.ensures in
    opens_new text profile wires life
    (of_text text profile wires life opened.profile c.in-Ok.ensures.ok c.in-Some.ensures.profile c.in-Some.ensures.map c.in-Some.ensures.costs opened.setup opened.level)
    opened.profile opened.begins
