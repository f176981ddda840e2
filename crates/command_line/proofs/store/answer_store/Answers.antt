use Rattle.std.proofs.Common.{◌∙◌, ℕ, List, ◌++◌, length, ap, subst, rules}
use Rattle.slot_store.specs.Told.{IsRestored}
use Rattle.command_line.specs.Store.{shown_lines}
use Rattle.command_line.proofs.Stores.{shows_image}
use Rattle.command_line.proofs.store.answer_store.Goals as goal

pub returns-clause-tells : goal.returns-clause-tells
returns-clause-tells g c =
    let answers = g.R.Report.answers in let it = c.in-Ok.restored in let lines = c.in-Some.lines in
    shows_image c.args.store.items lines it (answers c.args.report.now) (answers c.answer-2.new.self) (answers c.answer_contents.new.report)
    (search rules) (subst (IsRestored it lines) c.in_ok-device.ensures.row c.in-Ok.ensures.found) c.in-Ok.ensures.sound.0 c.in_ok-answer-2.ensures.taken
    (c.in_ok-answer_contents.ensures ∙ ap (λ (memory : List (List ℕ)). answers c.answer-2.new.self ++ shown_lines memory (length memory)) c.deref.ensures.value)
