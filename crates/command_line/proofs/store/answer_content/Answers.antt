use Rattle.std.proofs.Common.{◌≡◌, ◌∙◌, List, ◌++◌, OnOk, ap, sym, subst, rules}
use Rattle.std.proofs.lemmas.List.{append-nil}
use Rattle.nv_script.specs.declared.answer.Answer.{Answer}
use Rattle.command_line.proofs.Stores.{zero_unshown, other_shown}
use Rattle.command_line.proofs.store.answer_content.Goals as goal

pub returns-then-eq : goal.returns-then-eq
returns-then-eq g c =
    let before = g.R.Report.answers c.args.report.now in
    sym (ap (λ (more : List Answer). before ++ more) (zero_unshown c.args.line c.args.bytes.now (search rules)) ∙ append-nil before)

pub returns : goal.returns
returns g c =
    let answers = g.R.Report.answers in
    subst (λ (more : List Answer). OnOk c.answer.result (answers c.answer.new.self ≡ answers c.args.report.now ++ more))
    (sym (other_shown c.args.line c.args.bytes.now (search rules))) c.answer.ensures.taken
