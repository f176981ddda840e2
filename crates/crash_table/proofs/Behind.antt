-- What a run leaves of its device, and what a restore of that answers.
use Rattle.std.proofs.Common.{◌≡◌, ◌∙◌, ℕ, List, [], ◌∷◌, ◌++◌, Option, Some, None, Result, Ok, Err, refl, sym, ap, subst, arith}
use Rattle.std.specs.Option.{unwrap_or}
use Rattle.std.specs.Prelude.{IfErr, IfOk, MatchOption, is_some, slice_get}
use Rattle.ddr4_timing.specs.Limits.{lines_of}
use Rattle.save_device.specs.Device.{DeviceState, IsSettled, MayLeave, present}
use Rattle.save_device.specs.Memory.{state_of}
use Rattle.save_device.specs.declared.memory.MemoryDevice.{MemoryDevice}
use Rattle.save_device.specs.declared.memory.Pick.{Pick}
use Rattle.save_device.proofs.Rows.{same_rows}
use Rattle.slot_store.specs.Outcomes.{restored}
use Rattle.slot_store.specs.Slots.{HasSize}
use Rattle.slot_store.specs.declared.head.Head.{Head}
use Rattle.slot_store.specs.declared.restoring.RestoreError.{RestoreError}
use Rattle.energy_budget.specs.Meter.{meter_gauge}
use Rattle.channel_port.specs.declared.port.ChannelPort.{Ghosts}
use Rattle.nv_machine.specs.Headline.{RecoversAfterwards}
use Rattle.nv_machine.specs.State.{Machine, Setup}
use Rattle.module_core.specs.Stands.{ModuleStands, assembly}
use Rattle.module_core.specs.declared.module.Module.{Module}
use Rattle.nv_profile.specs.declared.profile.Profile.{Profile}
use Rattle.nv_session.proofs.Coming.{left_by_life}
use Rattle.nv_session.specs.Living.{SessionAt, device_state, innermost}
use Rattle.nv_session.specs.Restoring.{FindsPrefixOf, GoesBackTo, IsLeftBy, KeepsPrefixOf}
use Rattle.nv_session.specs.Sessions.{line_count_in, moment_in}
use Rattle.nv_session.specs.declared.session.Session.{Session}
use Rattle.nv_session.specs.declared.wires.Wires as wires
use Rattle.nv_script.specs.declared.answer.Answer.{Answer}
use Rattle.nv_script.specs.declared.line.ScriptLine.{ScriptLine}
use Rattle.nv_script.specs.declared.line.ScriptLine.TheVariants as line
use Rattle.script_runner.specs.Keeping.{AnswersWhole, Bears, IsKeptBy}
use Rattle.script_runner.specs.Ledger.{IsTrueBy, IsTrueOf, Ledger, at_rest, told_by}
use Rattle.script_runner.specs.Replies.{restore_told}
use Rattle.script_runner.specs.Runs.{DoesLine}
use Rattle.script_runner.specs.Story.{known_after}
use Rattle.script_runner.proofs.Bearing.{back_at_rest, the_ledger}
use Rattle.script_runner.proofs.Telling.{restored_truly}
use Rattle.crash_table.specs.Behinds.{IsBehind}
use Rattle.crash_table.specs.Outcomes.{EndsWithFault, IsFoundOf, IsOutcomeOf, IsRestoreOf, IsTrueRun, MayBeLeft, MayEnd, found_by, told_of}
use Rattle.crash_table.specs.Standings.{Stands}
use Rattle.crash_table.specs.declared.outcome.Outcome.{Outcome}
use Rattle.crash_table.specs.declared.standing.Standing.{Standing}
use Rattle.crash_table.specs.declared.trials.stopping.Behind.{Behind}
use Rattle.crash_table.proofs.Runs.{OneAnswer, fills_one, one_answer, restore_by}
use Rattle.crash_table.proofs.Told.{told_all, told_is}

-- a stop of a settled device leaves its bytes
settled_bytes : (device : DeviceState) (bytes : List ℕ) → IsSettled device → MayLeave (present device) bytes → bytes ≡ device.bytes
settled_bytes device bytes settled left = same_rows device.bytes bytes (record { size = left.size; outside = λ place here. left.outside place (settled place) })

module _ {K A : Type 0} {L : Ghosts K} {W : wires.Ghosts A K} where
  -- a stop of a session leaves what one does after each machine that it goes back to
  session_left : (session : Session K A L W) (m : Machine) → GoesBackTo L (line_count_in session) (moment_in session) m
      → IsLeftBy (line_count_in session) m (device_state session.device)
  session_left session m back = of_life session.life refl back
    where
      device : DeviceState
      device = device_state session.device

      of_life : (life : Option (Module K L)) → session.life ≡ life → MatchOption life (IsLeftBy (line_count_in session) m device) (λ it. ModuleStands L it device m)
          → IsLeftBy (line_count_in session) m device
      of_life None none left = left
      of_life (Some it) runs stands =
          subst (λ (n : ℕ). IsLeftBy n m device) (session.living.fits it runs).lines (left_by_life L (assembly it device (meter_gauge session.gauge)) m stands)

  -- so does one of the device of a session behind lines
  pub stands_leave : (profile : Profile) (standing : Standing K A L W) (stands : Stands profile standing) (image : List ℕ) → MayLeave (present (state_of (innermost standing.session.device))) image
      → MayBeLeft (lines_of profile.checked.geometry) (known_after None stands.through.answered.story) image
  stands_leave profile standing stands image left ledger known =
      let last : Session K A L W = standing.session in
      let same : last.profile ≡ profile = stands.profile_is in
      let borne : Bears L (lines_of profile.checked.geometry) ledger (moment_in last) = stands.through.bears ledger known in
      let back : GoesBackTo L (line_count_in last) (moment_in last) borne.m =
      subst (λ (p : Profile). GoesBackTo L (lines_of p.checked.geometry) (moment_in last) borne.m) (sym same) borne.back in (
        borne.m,
        borne.kept,
        subst (λ (p : Profile). RecoversAfterwards borne.m (restored (lines_of p.checked.geometry) image)) same (session_left last borne.m back image left),
      )

  -- which has the size of the profile's lines
  pub stands_whole : (profile : Profile) (standing : Standing K A L W) → Stands profile standing → HasSize (lines_of profile.checked.geometry) (state_of (innermost standing.session.device))
  stands_whole profile standing stands =
      subst (λ (p : Profile). HasSize (lines_of p.checked.geometry) (device_state standing.session.device)) stands.profile_is standing.session.living.size

  -- how many writes its answers told to be persistent is what their story tells
  pub told_stands : (profile : Profile) (standing : Standing K A L W) (stands : Stands profile standing) → unwrap_or standing.told 0 ≡ told_of (known_after None stands.through.answered.story)
  told_stands profile standing stands =
      ap (λ (told : Option ℕ). unwrap_or told 0) stands.told ∙ ap (λ (some : List Answer). unwrap_or (told_all None some) 0) stands.through.answered.answers_are ∙ told_is stands.through.answered.story

  -- its lines were run
  pub stands_run : (profile : Profile) (standing : Standing K A L W) (stands : Stands profile standing) → IsTrueRun (lines_of profile.checked.geometry) standing.done.items stands.through.answered.story
  stands_run profile standing stands = record { asked = stands.through.answered.asked_are; holds = stands.through.answered.holds; whole = stands.through.whole }

  -- what was found of bytes that a stop may leave behind lines is an outcome of the lines
  pub outcome_found : (profile : Profile) (behind : Behind K A L W) (is : IsBehind profile behind) (image : List ℕ) (pick : Pick) (outcome : Outcome)
      → MayLeave (present (state_of (innermost behind.standing.session.device))) image → IsFoundOf (lines_of profile.checked.geometry) image (unwrap_or behind.standing.told 0) outcome
      → IsOutcomeOf (lines_of profile.checked.geometry) behind.standing.done.items pick outcome
  outcome_found profile behind is image pick outcome may found = record {
    story = is.stands.through.answered.story;
    run = stands_run profile behind.standing is.stands;
    told = ap (λ (o : Outcome). o.told) found.2 ∙ told_stands profile behind.standing is.stands;
    given = found.0;
    holds = found.1 (known_after None is.stands.through.answered.story) pick (stands_leave profile behind.standing is.stands image may);
    found = ap (λ (o : Outcome). o.found) found.2;
  }

  -- what a restore of a session behind lines answers is an outcome of the lines
  pub restored_here : (profile : Profile) (standing : Standing K A L W) (stands : Stands profile standing) (pick : Pick) (before after : List Answer) (new : Session K A L W) → before ≡ []
      → DoesLine (line_count_in standing.session) (restore_by pick) before after standing.session new → (given : Answer) → slice_get after 0 ≡ Some given
      → (outcome : Outcome) → outcome.found ≡ found_by given → outcome.told ≡ unwrap_or standing.told 0 → IsOutcomeOf (lines_of profile.checked.geometry) standing.done.items pick outcome
  restored_here profile standing stands pick before after new begins does given first outcome found told =
      let size : ℕ = lines_of profile.checked.geometry in
      let known : Option Ledger = known_after None stands.through.answered.story in
      let sized : line_count_in standing.session ≡ size = ap (λ (p : Profile). lines_of p.checked.geometry) stands.profile_is in
      let here : AnswersWhole L size (restore_by pick) before after (moment_in standing.session) (moment_in new) =
      subst (λ (n : ℕ). AnswersWhole L n (restore_by pick) before after (moment_in standing.session) (moment_in new)) sized does.answers in
      let answers : List Answer = here.line.part.given in
      let grown : after ≡ answers = here.line.part.grown_by ∙ ap (λ (some : List Answer). some ++ answers) begins in
      let one : OneAnswer size known (restore_by pick) answers = one_answer size known (restore_by pick) answers (fills_one answers here.whole) (here.line.part.holds known stands.through.bears) in
      let told_first : Some one.given ≡ Some given = sym (ap (λ (some : List Answer). slice_get some 0) (grown ∙ one.is)) ∙ first in
      let same : one.given ≡ given = cc in
      record {
        story = stands.through.answered.story;
        run = stands_run profile standing stands;
        told = told ∙ told_stands profile standing stands;
        given = given;
        holds = subst (IsTrueOf size known (restore_by pick)) same one.holds;
        found = found;
      }

  -- whether the run ended with a fault
  pub stands_ends : (profile : Profile) (standing : Standing K A L W) → Stands profile standing → MayEnd (lines_of profile.checked.geometry) standing.done.items standing.fails
  stands_ends profile standing stands = record {
    story = stands.through.answered.story;
    run = stands_run profile standing stands;
    ends = subst (λ (some : List Answer). EndsWithFault some standing.fails) stands.through.answered.answers_are stands.fails;
  }

-- what is true of an answer to a restore rests on the writes alone
true_of_rest : (size : ℕ) (reply : Result Head RestoreError) (ledger : Ledger) → IsTrueBy size (restore_told reply) (at_rest ledger) → IsTrueBy size (restore_told reply) ledger
true_of_rest size (Ok found) ledger holds = holds
true_of_rest size (Err error) ledger holds = holds

tells_none : (reply : Result Head RestoreError) → told_by (restore_told reply) ≡ 0
tells_none (Ok found) = refl
tells_none (Err error) = refl

true_of_known : (size : ℕ) (pick : Pick) (reply : Result Head RestoreError) (known : Option Ledger)
    → ((ledger : Ledger) → known ≡ Some ledger → IsTrueBy size (restore_told reply) ledger) → IsTrueOf size known (line.Restore (Some pick) None) (restore_told reply)
true_of_known size pick (Ok found) known holds = record { of = tt; holds = holds; within = λ ledger is. omega arith }
true_of_known size pick (Err error) known holds = record { of = tt; holds = holds; within = λ ledger is. omega arith }

-- a restore of a settled device where no life runs is one of its bytes
pub restores_bytes : {K : Type 0} (L : Ghosts K) (size : ℕ) (setup : Setup) (reply : Result Head RestoreError) (old new : SessionAt L) → old.life ≡ None → IsSettled old.device
    → IfOk reply (λ found. FindsPrefixOf L size setup old found new) → IfErr reply (λ error. KeepsPrefixOf L size old error new) → IfErr reply (λ error. new.life ≡ None)
    → IsRestoreOf size old.device.bytes (restore_told reply)
restores_bytes L size setup reply old new rests settled finds keeps none known pick left = true_of_known size pick reply known
    (λ ledger is.
    let by = left ledger is in
    let m : Machine = by.0 in
    let quiet : Ledger = at_rest ledger in
    let left_by : IsLeftBy size m old.device =
    λ image may. subst (λ (bs : List ℕ). RecoversAfterwards m (restored size bs)) (sym (settled_bytes old.device image settled may)) by.2 in
    let kept : IsKeptBy size quiet m = record { before = by.1.before; writes = by.1.writes; start = by.1.start; base = by.1.base; told = by.1.told } in
    let borne : Bears L size quiet old = record { runs = sym (ap is_some rests); m = m; back = back_at_rest L size old m rests left_by; kept = kept } in
    let told = restored_truly L size (Some pick) None setup reply old new finds keeps none (Some quiet) (λ other same. subst (λ (l : Ledger). Bears L size l old) (the_ledger quiet other same) borne) in
    true_of_rest size reply ledger (told.holds.holds quiet refl))
