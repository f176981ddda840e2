use Rattle.std.proofs.Common.{ℕ, List, subst}
use Rattle.std.proofs.lemmas.Result.{IfOk-weaker}
use Rattle.command_faults.specs.Named.{OfScriptNamed}
use Rattle.run_command.specs.Whole.{IsRunTold}
use Rattle.run_command.proofs.script.run_allowed.Goals as goal

pub returns : goal.returns
returns g c =
    let gives = g.R.FileHost.gives c.args.rt.now in
    let words = c.args.words in
    let profile = c.in_ok-profile.profile in
    let old = g.W.Write.contents c.args.writer.now in
    let new = g.W.Write.contents c.run_read.new.writer in
    IfOk-weaker c.run_read.result (λ ran. IsRunTold words.is_json words.stats old new profile c.deref.result.now) (λ ran. OfScriptNamed gives words.profile.now words.script.now (IsRunTold words.is_json words.stats old new))
    (λ ran whole. record {
      profile = profile;
      script = c.in_ok-script.script.items;
      of_profile = c.in_ok-profile.ensures.named;
      of_script = c.in_ok-script.ensures.given;
      told = subst (λ (script : List ℕ). IsRunTold words.is_json words.stats old new profile script) c.deref.ensures.value whole;
    }) c.run_read.ensures
