-- Sessions behind lines of a script: one line more, and copies.
use Rattle.std.proofs.Common.{◌≡◌, ◌∙◌, ℕ, List, [], ◌∷◌, ◌++◌, Bool, Option, None, Some, refl, sym, ap, subst, fold}
use Rattle.std.specs.Prelude.{is_some}
use Rattle.std.proofs.lemmas.List.{append_assoc}
use Rattle.std.proofs.lemmas.List.Sums.{fold-append}
use Rattle.ddr4_timing.specs.Limits.{lines_of}
use Rattle.energy_budget.specs.Meter.{meter_gauge}
use Rattle.channel_port.specs.declared.port.ChannelPort.{Ghosts}
use Rattle.module_core.specs.declared.module.Module.{Module}
use Rattle.nv_machine.specs.State.{Machine}
use Rattle.nv_profile.specs.declared.profile.Profile.{Profile}
use Rattle.nv_script.specs.declared.answer.Answer.{Answer}
use Rattle.nv_script.specs.declared.line.ScriptLine.{ScriptLine}
use Rattle.nv_session.proofs.Copies.{device_same, goes_back_same}
use Rattle.nv_session.specs.Copies.{AreLivesAlike, AreSessionsAlike}
use Rattle.nv_session.specs.Living.{device_state}
use Rattle.nv_session.specs.Sessions.{line_count_in, moment_in}
use Rattle.nv_session.specs.declared.session.Session.{Session}
use Rattle.nv_session.specs.declared.wires.Wires as wires
use Rattle.script_runner.proofs.Stories.{pushed, through_begins}
use Rattle.script_runner.specs.Keeping.{AnswersWhole, Bears, GoesThrough}
use Rattle.script_runner.specs.Runs.{DoesLine}
use Rattle.crash_table.specs.Outcomes.{EndsWithFault, told_behind}
use Rattle.crash_table.specs.Standings.{GoesOnBy, Stands}
use Rattle.crash_table.specs.declared.standing.Standing.{Standing}
use Rattle.crash_table.proofs.Told.{told_all}

-- a life runs in both, or in none
runs_alike : {K : Type 0} (L : Ghosts K) (old new : Option (Module K L)) → AreLivesAlike L old new → is_some new ≡ is_some old
runs_alike L None None alike = refl
runs_alike L (Some old) (Some new) alike = refl
runs_alike L None (Some new) alike = absurd alike
runs_alike L (Some old) None alike = absurd alike

module _ {K A : Type 0} {L : Ghosts K} {W : wires.Ghosts A K} where
  -- before the first line
  pub stands_first : (profile : Profile) (standing : Standing K A L W) → standing.session.profile ≡ profile → standing.done.items ≡ [] → standing.told ≡ None → EndsWithFault [] standing.fails
      → Stands profile standing
  stands_first profile standing same none told fails =
      let size : ℕ = lines_of profile.checked.geometry in
      record {
        profile_is = same;
        answers = [];
        through = subst (λ (lines : List ScriptLine). GoesThrough L size lines [] [] (moment_in standing.session)) (sym none) (through_begins L size [] (moment_in standing.session));
        told = told;
        fails = fails;
      }

  -- one line more
  pub stands_more : (profile : Profile) (old new : Standing K A L W) (line : ScriptLine) (before after : List Answer) → before ≡ []
      → DoesLine (line_count_in old.session) line before after old.session new.session → new.session.profile ≡ old.session.profile → new.done.items ≡ old.done.items ++ line ∷ []
      → new.told ≡ told_all old.told after → ((all : List Answer) → EndsWithFault all old.fails → EndsWithFault (all ++ after) new.fails)
      → Stands profile old → Stands profile new
  stands_more profile old new line before after begins does same done told fails stands =
      let size : ℕ = lines_of profile.checked.geometry in
      let sized : line_count_in old.session ≡ size = ap (λ (p : Profile). lines_of p.checked.geometry) stands.profile_is in
      let here : AnswersWhole L size line before after (moment_in old.session) (moment_in new.session) =
      subst (λ (n : ℕ). AnswersWhole L n line before after (moment_in old.session) (moment_in new.session)) sized does.answers in
      let given : List Answer = here.line.part.given in
      let grown : after ≡ given = here.line.part.grown_by ∙ ap (λ (some : List Answer). some ++ given) begins in
      let further : AnswersWhole L size line stands.answers (stands.answers ++ after) (moment_in old.session) (moment_in new.session) = record {
        line = record {
          part = record { given = given; grown_by = ap (λ (some : List Answer). stands.answers ++ some) grown; holds = here.line.part.holds };
          keeps = here.line.keeps;
        };
        whole = here.whole;
      } in
      let through : GoesThrough L size (old.done.items ++ line ∷ []) [] (stands.answers ++ after) (moment_in new.session) =
      pushed L size old.done.items line [] stands.answers (stands.answers ++ after) (moment_in old.session) (moment_in new.session) stands.through further in
      record {
        profile_is = same ∙ stands.profile_is;
        answers = stands.answers ++ after;
        through = subst (λ (lines : List ScriptLine). GoesThrough L size lines [] (stands.answers ++ after) (moment_in new.session)) (sym done) through;
        told = told ∙ ap (λ (some : Option ℕ). told_all some after) stands.told ∙ sym (fold-append (λ (some : Option ℕ) (answer : Answer). told_behind answer some) None stands.answers after);
        fails = fails stands.answers stands.fails;
      }

  -- what is borne out by a session is borne out by its copy
  bears_same : (size : ℕ) (ledger : _) (old new : Session K A L W) → AreSessionsAlike old new → Bears L size ledger (moment_in old) → Bears L size ledger (moment_in new)
  bears_same size ledger old new alike bears = record {
    runs = bears.runs ∙ sym (runs_alike L old.life new.life alike.life);
    m = bears.m;
    back = goes_back_same L size old.life new.life (device_state old.device) (device_state new.device) (meter_gauge old.gauge) (meter_gauge new.gauge) bears.m alike.life
        (device_same old.device new.device alike.device) alike.gauge bears.back;
    kept = bears.kept;
  }

  -- a copy stands behind the same lines
  pub stands_copied : (profile : Profile) (old new : Standing K A L W) → AreSessionsAlike old.session new.session → new.done.items ≡ old.done.items → new.told ≡ old.told → new.fails ≡ old.fails
      → Stands profile old → Stands profile new
  stands_copied profile old new alike done told fails stands =
      let size : ℕ = lines_of profile.checked.geometry in
      let through : GoesThrough L size old.done.items [] stands.answers (moment_in new.session) = record {
        answered = stands.through.answered;
        whole = stands.through.whole;
        bears = λ ledger known. bears_same size ledger old.session new.session alike (stands.through.bears ledger known);
      } in
      record {
        profile_is = alike.profile ∙ stands.profile_is;
        answers = stands.answers;
        through = subst (λ (lines : List ScriptLine). GoesThrough L size lines [] stands.answers (moment_in new.session)) (sym done) through;
        told = told ∙ stands.told;
        fails = subst (λ (b : Bool). EndsWithFault stands.answers b) (sym fails) stands.fails;
      }

  -- lines more, and others behind them
  pub on_further : (some more : List ScriptLine) (old mid new : Standing K A L W) → GoesOnBy some old mid → GoesOnBy more mid new → GoesOnBy (some ++ more) old new
  on_further some more old mid new first later = record {
    profile = later.profile ∙ first.profile;
    done = later.done ∙ ap (λ (lines : List ScriptLine). lines ++ more) first.done ∙ append_assoc old.done.items some more;
    stands = λ of stands. later.stands of (first.stands of stands);
  }
