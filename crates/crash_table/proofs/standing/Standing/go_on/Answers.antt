use Rattle.std.proofs.Common.{◌∙◌, ◌++◌, List, ap, subst}
use Rattle.nv_script.specs.declared.answer.Answer.{Answer}
use Rattle.crash_table.specs.Outcomes.{EndsWithFault}
use Rattle.crash_table.proofs.Standings.{stands_more}
use Rattle.crash_table.proofs.Told.{told_all}
use Rattle.crash_table.proofs.standing.Standing.go_on.Goals as goal

pub returns-clause-goes : goal.returns-clause-goes
returns-clause-goes g c =
    let old = c.args.self.now in
    let given : List Answer = c.answer_line.new.report.taken.items in
    record {
      profile = c.answer_line.ensures.profile;
      done = c.note.ensures;
      stands = λ of stands.
          stands_more of old _ c.args.line c.new-answers.result.taken.items given c.new-answers.ensures c.in-Ok.ensures.done c.answer_line.ensures.profile c.note.ensures
          (c.told_after-self.ensures ∙ ap (λ (some : List Answer). told_all old.told some) c.deref.ensures.value)
          (λ all ends. subst (λ (some : List Answer). EndsWithFault (all ++ some) c.ends_behind-self.result) c.deref-2.ensures.value (c.ends_behind-self.ensures all ends)) stands;
    }
