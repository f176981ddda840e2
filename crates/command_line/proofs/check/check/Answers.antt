use Rattle.std.proofs.Common.{ℕ, List, Result, IfOk, subst}
use Rattle.std.specs.declared.process.ExitCode.{ExitCode}
use Rattle.command_faults.specs.Named.{NamesRules}
use Rattle.command_faults.specs.declared.failure.Failure.{Failure}
use Rattle.command_line.specs.Check.{HasVerdict, IsSourceNamed}
use Rattle.command_line.specs.declared.check.Asked.{Asked}
use Rattle.command_line.proofs.Verdicts.{verdict_kept}
use Rattle.command_line.proofs.check.check.Goals as goal

pub returns-in-Ok : goal.returns-in-Ok
returns-in-Ok g c =
    let gives = g.R.FileHost.gives c.args.rt.now in let contents = g.W.Write.contents in
    let rules = c.in_ok-rules.rules in let source = c.in_ok-source.source in
    let asked : Asked = record {
      form = c.in_ok-form.form;
      others = c.get_flag.result;
      allows_empty = c.get_flag-2.result;
      is_json = c.get_flag-3.result;
      all = c.get_flag-4.result;
      stats = c.get_flag-5.result;
    } in
    let old = contents c.args.writer.now in let mid = contents c.write_check.new.writer in
    record {
      rules = rules;
      source = source;
      asked = asked;
      of_profile = subst (λ (word : List ℕ). NamesRules gives word rules) c.word_or.ensures c.in_ok-rules.ensures.named;
      of_trace = subst (λ (word : List ℕ). IsSourceNamed gives word source) c.word_or-name.ensures c.in_ok-source.ensures;
      of_words = record {
        form = c.in_ok-form.ensures.form;
        others = record { none = c.get_flag.ensures.none; set = c.get_flag.ensures.value; unset = c.get_flag.ensures.other };
        empty = record { none = c.get_flag-2.ensures.none; set = c.get_flag-2.ensures.value; unset = c.get_flag-2.ensures.other };
        json = record { none = c.get_flag-3.ensures.none; set = c.get_flag-3.ensures.value; unset = c.get_flag-3.ensures.other };
        all = record { none = c.get_flag-4.ensures.none; set = c.get_flag-4.ensures.value; unset = c.get_flag-4.ensures.other };
        stats = record { none = c.get_flag-5.ensures.none; set = c.get_flag-5.ensures.value; unset = c.get_flag-5.ensures.other };
      };
      verdict = verdict_kept rules source asked c.in_ok-code-in-Ok.code old mid (contents c.flush.new.writer)
          (subst (λ (checked : Result ExitCode Failure). IfOk checked (λ code. HasVerdict rules source asked code old mid)) c.in_ok-code-in-Ok.was c.in-Ok.ensures)
          c.in_ok-flush-in-Ok.ensures.kept;
    }
