use Rattle.std.proofs.Common.{rules, ◌≡◌, refl}
use Rattle.run_command.proofs.Growing.{run_back, writes_none}
use Rattle.run_command.proofs.script.run_words.Goals as goal

pub returns-clause-told : goal.returns-clause-told
returns-clause-told g c =
    let was = c.printer_for-printer.result in let now = c.run_to_store.new.printer in
    let more = c.in_ok-run_to_store.ensures.continued was (refl, refl, writes_none _ _ _) in
    let same : now.writer.ghost_name ≡ was.writer.ghost_name = more.0 in
    run_back g.W.Write.contents _ _ _ _ _ _ _ _ _ _ c.printer_for-printer.ensures.form c.printer_for-printer.ensures.answers c.printer_for-printer.ensures.writer c.in_ok-run_to_store.ensures.whole more.2 (search rules)
