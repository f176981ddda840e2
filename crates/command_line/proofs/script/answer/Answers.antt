use Rattle.std.proofs.Common.{ℕ, List, refl, subst}
use Rattle.command_faults.specs.Named.{OfScriptNamed}
use Rattle.command_line.specs.Verbs.{profile_word, script_word}
use Rattle.nv_profile.specs.declared.profile.Profile.{Profile}
use Rattle.run_command.specs.Whole.{IsRunTold}
use Rattle.command_line.proofs.script.answer.Goals as goal

pub returns : goal.returns
returns g c =
    let gives = g.R.FileHost.gives c.args.rt.now in
    let words = c.in_ok-words.words in
    let Told : Profile → List ℕ → Type 0 = IsRunTold words.is_json words.stats (g.W.Write.contents c.args.writer.now) (g.W.Write.contents c.run_named.new.writer) in
    let named : OfScriptNamed gives (profile_word c.args.matches.now) (script_word c.args.matches.now) Told = subst (λ (word : List ℕ). OfScriptNamed gives (profile_word c.args.matches.now) word Told) c.in_ok-words.ensures.script
    (subst (λ (word : List ℕ). OfScriptNamed gives word words.script.now Told) c.in_ok-words.ensures.profile c.in_ok-run_named.ensures.run) in (
      refl,
      record {
        profile = named.profile;
        script = named.script;
        of_profile = named.of_profile;
        of_script = named.of_script;
        told = (words.is_json, words.stats, named.told);
      },
    )
