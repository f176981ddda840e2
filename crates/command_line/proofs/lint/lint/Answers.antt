use Rattle.std.proofs.Common.{ℕ, List, subst}
use Rattle.command_line.proofs.Lints.{lint_kept}
use Rattle.command_line.specs.Lint.{TellsBadLines}
use Rattle.command_line.proofs.lint.lint.Goals as goal

pub returns-clause-told : goal.returns-clause-told
returns-clause-told g c =
    let asked = c.in_ok-asked.asked in
    let old = g.W.Write.contents c.args.writer.now in
    let mid = g.W.Write.contents c.write_bad_lines.new.writer in
    let lines = subst (λ (script : List ℕ). TellsBadLines asked.profile.checked.geometry script c.in_ok-code.code old mid) c.deref.ensures.value c.in_ok-code.ensures.told in
    record {
      profile = asked.profile;
      script = asked.script.items;
      of_profile = c.in_ok-asked.ensures.profile;
      of_script = c.in_ok-asked.ensures.script;
      told = lint_kept asked.profile.checked.geometry asked.script.items c.in_ok-code.code old mid (g.W.Write.contents c.flush.new.writer) lines c.in_ok-flush.ensures.kept;
    }
