-- What a script's lines make of the lists of its channels.
use Rattle.std.proofs.Common.{◌≡◌, ◌∙◌, ℕ, ◌<◌, ◌==◌, if◌then◌else◌, true, false, List, [], ◌∷◌, ◌++◌, Result, Ok, Err, Option, Some, None, All, inl, inr, length, refl, sym, ap, subst, arith}
use Rattle.std.proofs.lemmas.Grind.{flat_map-append}
use Rattle.std.proofs.lemmas.List.{append_assoc, append-nil}
use Rattle.std.proofs.lemmas.List.Elements.{All-cons, All-head, All-nil, All-tail}
use Rattle.std.proofs.lemmas.Option.{none-some, same_Some}
use Rattle.std.specs.Option.{option_map}
use Rattle.std.specs.Prelude.{IfErr, IfOk, OnOk, map, slice_get, slice_index_or, suc, zero}
use Rattle.ddr4_timing.specs.declared.command.Stamped.{Stamped}
use Rattle.ddr4_timing.specs.declared.timing.Checked.{Checked}
use Rattle.save_device.specs.Device.{DeviceState}
use Rattle.slot_store.specs.Outcomes.{Outcome}
use Rattle.slot_store.specs.declared.head.Head.{Head}
use Rattle.slot_store.specs.declared.restoring.RestoreError.{RestoreError}
use Rattle.arm_state.specs.declared.refusal.ArmRefusal.{ArmRefusal}
use Rattle.arm_state.specs.declared.refusal.ArmRefusal.TheVariants as refusals
use Rattle.arm_state.specs.declared.refusal.ArmReply.{ArmReply}
use Rattle.arm_state.specs.declared.refusal.ArmReply.TheVariants as arm
use Rattle.arm_state.specs.declared.refusal.DisarmReply.{DisarmReply}
use Rattle.arm_state.specs.declared.refusal.DisarmReply.TheVariants as disarm
use Rattle.arm_state.specs.declared.refusal.WriteRefusal.{WriteRefusal}
use Rattle.channel_port.specs.declared.answers.Done.{Done}
use Rattle.nv_profile.specs.declared.profile.Profile.{Profile}
use Rattle.nv_machine.specs.declared.events.Accepted.{Accepted}
use Rattle.nv_machine.specs.declared.events.Event.{Event}
use Rattle.nv_machine.specs.declared.events.Event.TheVariants as events
use Rattle.nv_machine.specs.declared.events.Reply.{Reply}
use Rattle.nv_machine.specs.declared.events.Reply.TheVariants as replies
use Rattle.nv_machine.specs.declared.events.StepReply.{StepReply}
use Rattle.nv_machine.specs.declared.events.StepReply.TheVariants as step
use Rattle.module_core.specs.IssuedRuns.{HaveIssued, begins_drains, issued_on, told_by, told_on}
use Rattle.module_core.specs.Stands.{ModuleStands, assembly, setup_of, point_of}
use Rattle.module_core.proofs.IssuedRuns.{runs_issue}
use Rattle.nv_session.specs.Living.{RunsUnissued}
use Rattle.nv_session.specs.Restoring.{Revives}
use Rattle.nv_session.specs.Turns.{AreOfStep}
use Rattle.nv_session.specs.declared.session.Session.{Session}
use Rattle.nv_session.specs.declared.wires.Wires as wires
use Rattle.nv_script.specs.declared.line.ScriptLine.TheVariants as line
use Rattle.nv_script.specs.declared.answer.Answer.TheVariants as answer
use Rattle.script_runner.specs.Doing.{AreEventsOf, Does, DoesAll, DoesEach, Formats, KeepsTerms, set_by}
use Rattle.script_runner.specs.Issued.{TellsItsLists, answers_in, begins_life, issue_told, issues_told, tells_all}
use Rattle.script_runner.specs.Replies.{arm_told, disarm_told, step_told, work_told, write_told}
use Rattle.script_runner.specs.Story.{Exchange}
use Rattle.script_runner.proofs.Common.{Answer, ComesTo, Ghosts, GoesOnBy, LivesOn, Machine, MatchOption, Module, RunsWith, ScriptLine, SessionAt, Setup, device_state, moment_in}
use Rattle.script_runner.proofs.Doing.{none_begins}

-- answers that tell no command
write_quiet : (channel : ℕ) (result : Result Accepted WriteRefusal) → issue_told channel (write_told result) ≡ []
write_quiet channel (Ok accepted) = refl
write_quiet channel (Err refusal) = refl

step_quiet : (channel : ℕ) (result : Result StepReply ArmRefusal) → issue_told channel (step_told result) ≡ []
step_quiet channel (Ok (step.Did made)) = refl
step_quiet channel (Ok (step.Saved generation count)) = refl
step_quiet channel (Ok step.Waiting) = refl
step_quiet channel (Ok step.NoSave) = refl
step_quiet channel (Ok step.Turned) = refl
step_quiet channel (Ok step.Retry) = refl
step_quiet channel (Ok step.Fault) = refl
step_quiet channel (Err refusal) = refl

arm_quiet : (channel : ℕ) (result : Result ArmReply ArmRefusal) → issue_told channel (arm_told result) ≡ []
arm_quiet channel (Ok arm.Armed) = refl
arm_quiet channel (Ok arm.AlreadyArmed) = refl
arm_quiet channel (Err refusals.Device) = refl
arm_quiet channel (Err refusal) = refl

disarm_quiet : (channel : ℕ) (result : Result DisarmReply ArmRefusal) → issue_told channel (disarm_told result) ≡ []
disarm_quiet channel (Ok disarm.Disarming) = refl
disarm_quiet channel (Ok disarm.AlreadyDisarmed) = refl
disarm_quiet channel (Err refusal) = refl

-- no drain is begun by these replies, and they tell of each channel what the answer tells
record TellsAlike (given : Answer) (asked : List Event) (told : List Reply) : Type 0 where
  undrained : All (λ reply. begins_drains reply ≡ false) told
  alike : (channel : ℕ) → told_on channel asked told ≡ issue_told channel given

one-undrained : (reply : Reply) → begins_drains reply ≡ false → All (λ reply. begins_drains reply ≡ false) (reply ∷ [])
one-undrained reply none = All-cons (λ (r : Reply). begins_drains r ≡ false) reply [] none (All-nil (λ (r : Reply). begins_drains r ≡ false))

-- one event that tells no command
alone-quiet : (given : Answer) (event : Event) (reply : Reply) (asked : List Event) (told : List Reply) → (asked ≡ event ∷ []) × (told ≡ reply ∷ []) → begins_drains reply ≡ false
    → ((channel : ℕ) → told_by channel event reply ≡ []) → ((channel : ℕ) → issue_told channel given ≡ []) → TellsAlike given asked told
alone-quiet given event reply asked told one none untold quiet = record {
  undrained = subst (λ (rs : List Reply). All (λ reply. begins_drains reply ≡ false) rs) (sym one.1) (one-undrained reply none);
  alike = λ channel.
      ap (λ (es : List Event). told_on channel es told) one.0 ∙ ap (told_on channel (event ∷ [])) one.1 ∙ append-nil (told_by channel event reply) ∙ untold channel ∙ sym (quiet channel);
}

-- a work
work-alike : (channel : ℕ) (done : Option Done) (given : Answer) (asked : List Event) (told : List Reply) → given ≡ work_told channel (option_map (λ done. done.command) done)
    → (asked ≡ events.Work channel ∷ []) × (told ≡ replies.Work done ∷ []) → TellsAlike given asked told
work-alike worked None given asked told is one =
    alone-quiet given (events.Work worked) (replies.Work None) asked told one refl (λ channel. refl) (λ channel. ap (issue_told channel) is)
work-alike worked (Some done) given asked told is one = record {
  undrained = subst (λ (rs : List Reply). All (λ reply. begins_drains reply ≡ false) rs) (sym one.1) (one-undrained (replies.Work (Some done)) refl);
  alike = λ channel.
      ap (λ (es : List Event). told_on channel es told) one.0 ∙ ap (told_on channel (events.Work worked ∷ [])) one.1
      ∙ append-nil (if worked == channel then done.command ∷ [] else []) ∙ sym (ap (issue_told channel) is);
}

-- a step of a save
step-alike : (result : Result StepReply ArmRefusal) (given : Answer) (asked : List Event) (told : List Reply) → given ≡ step_told result → AreOfStep result asked told → TellsAlike given asked told
step-alike (Ok reply) given asked told is (inl one) =
    alone-quiet given events.SaveStep (replies.SaveStep reply) asked told (one.1, one.2) refl (λ channel. refl) (λ channel. ap (issue_told channel) is ∙ step_quiet channel (Ok reply))
step-alike (Ok reply) given asked told is (inr three) = record {
  undrained = subst (λ (rs : List Reply). All (λ reply. begins_drains reply ≡ false) rs) (sym three.1)
      (All-cons (λ (r : Reply). begins_drains r ≡ false) (replies.SaveStep step.NoSave) (replies.SaveBegin (Ok tt) ∷ replies.SaveStep reply ∷ []) refl
      (All-cons (λ (r : Reply). begins_drains r ≡ false) (replies.SaveBegin (Ok tt)) (replies.SaveStep reply ∷ []) refl (one-undrained (replies.SaveStep reply) refl)));
  alike = λ channel.
      ap (λ (es : List Event). told_on channel es told) three.0
      ∙ ap (told_on channel (events.SaveStep ∷ events.SaveBegin ∷ events.SaveStep ∷ [])) three.1 ∙ sym (ap (issue_told channel) is ∙ step_quiet channel (Ok reply));
}
step-alike (Err refusal) given asked told is two = record {
  undrained = subst (λ (rs : List Reply). All (λ reply. begins_drains reply ≡ false) rs) (sym two.1)
      (All-cons (λ (r : Reply). begins_drains r ≡ false) (replies.SaveStep step.NoSave) (replies.SaveBegin (Err refusal) ∷ []) refl (one-undrained (replies.SaveBegin (Err refusal)) refl));
  alike = λ channel.
      ap (λ (es : List Event). told_on channel es told) two.0
      ∙ ap (told_on channel (events.SaveStep ∷ events.SaveBegin ∷ [])) two.1 ∙ sym (ap (issue_told channel) is ∙ step_quiet channel (Err refusal));
}

-- the events of a line that tells all
events-alike : (asked : ScriptLine) (given : Answer) (setup : Setup) (es : List Event) (rs : List Reply) (m n : Machine) → tells_all asked ≡ true → AreEventsOf asked given setup es rs m n → TellsAlike given es rs
events-alike (line.Write write) given setup es rs m n all (result, is, one) =
    alone-quiet given (events.Write write) (replies.Write result) es rs one refl (λ channel. refl) (λ channel. ap (issue_told channel) is ∙ write_quiet channel result)
events-alike (line.Work channel most) given setup es rs m n all (result, is, work) =
    work-alike channel work.done given es rs (is ∙ ap (work_told channel) work.is) work.one
events-alike line.Step given setup es rs m n all (result, is, makes) = step-alike result given es rs is makes.are
events-alike (line.Sense level) given setup es rs m n all (reading, mode, is, one) =
    alone-quiet given events.Sense (replies.Sense reading) es rs one refl (λ channel. refl) (λ channel. ap (issue_told channel) is)
events-alike line.Arm given setup es rs m n all (result, is, one) =
    alone-quiet given events.Arm (replies.Arm result) es rs one refl (λ channel. refl) (λ channel. ap (issue_told channel) is ∙ arm_quiet channel result)
events-alike line.Disarm given setup es rs m n all (result, is, one) =
    alone-quiet given events.Disarm (replies.Disarm result) es rs one refl (λ channel. refl) (λ channel. ap (issue_told channel) is ∙ disarm_quiet channel result)
events-alike (line.Read at) given setup es rs m n all are = absurd (let bad : ⊥ = cc in bad)
events-alike line.Save given setup es rs m n all are = absurd (let bad : ⊥ = cc in bad)
events-alike line.Lose given setup es rs m n all are = absurd (let bad : ⊥ = cc in bad)
events-alike asked given setup es rs m n all are = absurd are

module _ {K : Type 0} (L : Ghosts K) where
  -- the life stands for a machine, and its lists are these
  record IsSoFar (checked : Checked) (told : ℕ → List Stamped) (at : SessionAt L) (it : Module K L) : Type 0 where
    m : Machine
    stands : ModuleStands L it at.device m
    checked_is : it.channels.terms.checked ≡ checked
    lists : (channel : ℕ) → channel < length it.channels.ports.items → issued_on L it.channels channel ≡ told channel

  abbrev SoFar : Checked → (ℕ → List Stamped) → SessionAt L → Type 0
  SoFar checked told at = (it : Module K L) → at.life ≡ Some it → IsSoFar checked told at it

  -- it went on by the events of a line that tells all
  goes-further : (asked : ScriptLine) (given : Answer) (checked : Checked) (told : ℕ → List Stamped) (old new : SessionAt L) (it : Module K L) → tells_all asked ≡ true
      → IsSoFar checked told old it → LivesOn L (AreEventsOf asked given) it old new → SoFar checked (λ channel. told channel ++ issue_told channel given) new
  goes-further asked given checked told old new it all so lives other runs =
      let comes : ComesTo L (AreEventsOf asked given (setup_of L it)) (assembly it old.device old.gauge) so.m (assembly lives.it new.device new.gauge) = lives.holds so.m so.stands in
      let alike : TellsAlike given comes.events comes.replies = events-alike asked given (setup_of L it) comes.events comes.replies so.m comes.runs.last all comes.told in
      let issued : HaveIssued L (λ channel. told_on channel comes.events comes.replies) it.channels lives.it.channels =
      runs_issue L (setup_of L it) comes.events comes.replies (point_of L (assembly it old.device old.gauge) so.m) (point_of L (assembly lives.it new.device new.gauge) comes.runs.last) comes.runs.run alike.undrained in
      subst (λ (life : Module K L). IsSoFar checked (λ channel. told channel ++ issue_told channel given) new life) (same_Some lives.it other (sym lives.runs ∙ runs))
      (record {
        m = comes.runs.last;
        stands = comes.runs.stands;
        checked_is = issued.checked ∙ so.checked_is;
        lists = λ channel less.
            let before : channel < length it.channels.ports.items = omega (arith, less, issued.count) in
            issued.lists channel before ∙ ap (λ (list : List Stamped). list ++ told_on channel comes.events comes.replies) (so.lists channel before) ∙ ap (λ (list : List Stamped). told channel ++ list) (alike.alike channel);
      })

  further : (asked : ScriptLine) (given : Answer) (checked : Checked) (told : ℕ → List Stamped) (old new : SessionAt L) → tells_all asked ≡ true
      → SoFar checked told old → GoesOnBy L (AreEventsOf asked given) old new → SoFar checked (λ channel. told channel ++ issue_told channel given) new
  further asked given checked told old new all so goes = by_life old.life refl
    where
      by_life : (life : Option (Module K L)) → old.life ≡ life → SoFar checked (λ channel. told channel ++ issue_told channel given) new
      by_life None is = λ other runs. absurd (none-some other (sym (none_begins L (AreEventsOf asked given) old new goes is) ∙ runs))
      by_life (Some it) is =
          goes-further asked given checked told old new it all (so it is) (subst (λ (life : Option (Module K L)). MatchOption life (new ≡ old) (λ it. LivesOn L (AreEventsOf asked given) it old new)) is goes)

  -- nothing was asked of it
  untouched : (given : Answer) (checked : Checked) (told : ℕ → List Stamped) (old new : SessionAt L) → ((channel : ℕ) → issue_told channel given ≡ []) → new.life ≡ old.life → new.device ≡ old.device
      → SoFar checked told old → SoFar checked (λ channel. told channel ++ issue_told channel given) new
  untouched given checked told old new quiet life device so it runs =
      let was = so it (sym life ∙ runs) in
      record {
        m = was.m;
        stands = subst (λ (d : DeviceState). ModuleStands L it d was.m) (sym device) was.stands;
        checked_is = was.checked_is;
        lists = λ channel less. was.lists channel less ∙ sym (ap (λ (list : List Stamped). told channel ++ list) (quiet channel) ∙ append-nil (told channel));
      }

  -- the lists of channels that have issued none
  none-issued : (ports : List K) → ((number : ℕ) (port : K) → slice_get ports number ≡ Some port → L.issued port ≡ []) → (channel : ℕ) → channel < length ports → slice_index_or (map L.issued ports) channel [] ≡ []
  none-issued [] none channel less = absurd (omega (arith, less))
  none-issued (port ∷ ports) none zero less = none 0 port refl
  none-issued (port ∷ ports) none (suc channel) less = none-issued ports (λ number other at. none (suc number) other at) channel (omega (arith, less))

module _ {K A : Type 0} {L : Ghosts K} {W : wires.Ghosts A K} where
  -- what is known of the lists of a session's life
  abbrev SoFarIn : Checked → (ℕ → List Stamped) → Session K A L W → Type 0
  SoFarIn checked told session = SoFar L checked told (moment_in session)

  -- a life that begins
  begins : (checked : Checked) (session : Session K A L W) (it : Module K L) (m : Machine) → session.life ≡ Some it → ModuleStands L it (device_state session.device) m
      → RunsUnissued L checked session.life → SoFarIn checked (λ channel. []) session
  begins checked session it m runs stands unissued other also =
      let first : it ≡ other = same_Some it other (sym runs ∙ also) in
      let same : unissued.it ≡ other = same_Some unissued.it other (sym unissued.runs ∙ also) in
      subst (λ (life : Module K L). IsSoFar L checked (λ channel. []) (moment_in session) life) same
      (record {
        m = m;
        stands = subst (λ (life : Module K L). ModuleStands L life (device_state session.device) m) (first ∙ sym same) stands;
        checked_is = unissued.checked_is;
        lists = none-issued L unissued.it.channels.ports.items unissued.none;
      })

  none-begun : (checked : Checked) (told : ℕ → List Stamped) (session : Session K A L W) → session.life ≡ None → SoFarIn checked told session
  none-begun checked told session none it runs = absurd (none-some it (sym none ∙ runs))

  formatted : (given : Answer) (old new : Session K A L W) → Formats given old new → (given ≡ answer.Formatted → RunsUnissued L old.profile.checked new.life) → SoFarIn old.profile.checked (λ channel. []) new
  formatted answer.Formatted old new made unissued = begins old.profile.checked new made.it _ made.runs made.holds (unissued refl)
  formatted answer.FormatFault old new made unissued = none-begun old.profile.checked (λ channel. []) new made.0
  formatted given old new made unissued = absurd made

  restored_so : (checked : Checked) (new : Session K A L W) (setup : Setup) (restores : Outcome) (result : Result Head RestoreError) → IfOk result (λ found. RunsWith L setup (λ life. Revives L restores found life (device_state new.device)) new.life)
      → IfErr result (λ error. new.life ≡ None) → OnOk result (RunsUnissued L checked new.life) → SoFarIn checked (λ channel. []) new
  restored_so checked new setup restores (Ok found) made none unissued = begins checked new made.it _ made.runs made.holds.stands unissued
  restored_so checked new setup restores (Err error) made none unissued = none-begun checked (λ channel. []) new none

  -- a line that begins a life
  line-begins : (asked : ScriptLine) (given : Answer) (old new : Session K A L W) → begins_life asked ≡ true → Does asked given old new → SoFarIn old.profile.checked (λ channel. []) new
  line-begins line.Format given old new is does = formatted given old new does.0 does.2
  line-begins (line.Restore pick map) given old new is does = restored_so old.profile.checked new _ _ does.0.result does.0.revives does.0.none does.0.issued
  line-begins asked given old new is does = absurd (let bad : ⊥ = cc in bad)

  -- a line that tells all
  line-tells : (asked : ScriptLine) (given : Answer) (checked : Checked) (told : ℕ → List Stamped) (old new : Session K A L W) → tells_all asked ≡ true → Does asked given old new
      → SoFarIn checked told old → SoFarIn checked (λ channel. told channel ++ issue_told channel given) new
  line-tells (line.Write write) given checked told old new all does so = further L (line.Write write) given checked told (moment_in old) (moment_in new) all so does.0.comes
  line-tells (line.Work channel most) given checked told old new all does so = further L (line.Work channel most) given checked told (moment_in old) (moment_in new) all so does.0.comes
  line-tells line.Step given checked told old new all does so = further L line.Step given checked told (moment_in old) (moment_in new) all so does.0.comes
  line-tells line.Arm given checked told old new all does so = further L line.Arm given checked told (moment_in old) (moment_in new) all so does.0.comes
  line-tells line.Disarm given checked told old new all does so = further L line.Disarm given checked told (moment_in old) (moment_in new) all so does.0.comes
  line-tells (line.Sense level) given checked told old new all does so =
      further L (line.Sense level) given checked told (set_by (line.Sense level) (moment_in old)) (moment_in new) all
      (λ it runs. let was = so it runs in record { m = was.m; stands = was.stands; checked_is = was.checked_is; lists = was.lists }) does.0.comes
  line-tells (line.Lie units) given checked told old new all does so =
      untouched L given checked told (moment_in old) (moment_in new) (λ channel. ap (issue_told channel) does.told) does.life (ap device_state does.device) so
  line-tells (line.Fuse calls) given checked told old new all does so =
      untouched L given checked told (moment_in old) (moment_in new) (λ channel. ap (issue_told channel) does.told) does.life does.device so
  line-tells (line.OneFault call) given checked told old new all does so =
      untouched L given checked told (moment_in old) (moment_in new) (λ channel. ap (issue_told channel) does.told) does.life does.device so
  line-tells line.Mark given checked told old new all does so =
      untouched L given checked told (moment_in old) (moment_in new) (λ channel. ap (issue_told channel) does.told) (ap (λ (s : Session K A L W). s.life) does.same) (ap (λ (s : Session K A L W). device_state s.device) does.same) so
  line-tells (line.Read at) given checked told old new all does so = absurd (let bad : ⊥ = cc in bad)
  line-tells line.Save given checked told old new all does so = absurd (let bad : ⊥ = cc in bad)
  line-tells line.Lose given checked told old new all does so = absurd (let bad : ⊥ = cc in bad)
  line-tells line.Format given checked told old new all does so = absurd (let bad : ⊥ = cc in bad)
  line-tells (line.Restore pick map) given checked told old new all does so = absurd (let bad : ⊥ = cc in bad)

  told-again : (checked : Checked) (told again : ℕ → List Stamped) (session : Session K A L W) → ((channel : ℕ) → told channel ≡ again channel) → SoFarIn checked told session → SoFarIn checked again session
  told-again checked told again session same so it runs =
      let was = so it runs in record { m = was.m; stands = was.stands; checked_is = was.checked_is; lists = λ channel less. was.lists channel less ∙ same channel }

  -- its answers
  answers-tell : (asked : ScriptLine) (answers : List Answer) (checked : Checked) (told : ℕ → List Stamped) (old new : Session K A L W) → tells_all asked ≡ true → DoesEach asked answers old new
      → SoFarIn checked told old → SoFarIn checked (λ channel. told channel ++ issues_told channel answers) new
  answers-tell asked [] checked told old new all same so =
      told-again checked told (λ channel. told channel ++ []) new (λ channel. sym (append-nil (told channel))) (subst (λ (s : Session K A L W). SoFarIn checked told s) (sym same) so)
  answers-tell asked (given ∷ later) checked told old new all does so =
      told-again checked (λ channel. (told channel ++ issue_told channel given) ++ issues_told channel later) (λ channel. told channel ++ issues_told channel (given ∷ later)) new
      (λ channel. append_assoc (told channel) (issue_told channel given) (issues_told channel later))
      (answers-tell asked later checked (λ channel. told channel ++ issue_told channel given) does.0 new all does.3 (line-tells asked given checked told old does.0 all does.1 so))

  -- and those of several lines
  story-tells : (rest : List Exchange) (checked : Checked) (told : ℕ → List Stamped) (old new : Session K A L W) → All (λ exchange. tells_all exchange.asked ≡ true) rest → DoesAll rest old new
      → SoFarIn checked told old → SoFarIn checked (λ channel. told channel ++ issues_told channel (answers_in rest)) new
  story-tells [] checked told old new all same so =
      told-again checked told (λ channel. told channel ++ []) new (λ channel. sym (append-nil (told channel))) (subst (λ (s : Session K A L W). SoFarIn checked told s) (sym same) so)
  story-tells (exchange ∷ rest) checked told old new all does so =
      let answers : List Answer = answers_in rest in
      told-again checked (λ channel. (told channel ++ issues_told channel exchange.answers) ++ issues_told channel answers) (λ channel. told channel ++ issues_told channel (exchange.answers ++ answers)) new
      (λ channel. append_assoc (told channel) (issues_told channel exchange.answers) (issues_told channel answers) ∙ ap (λ (list : List Stamped). told channel ++ list) (sym (flat_map-append (issue_told channel) exchange.answers answers)))
      (story-tells rest checked (λ channel. told channel ++ issues_told channel exchange.answers) does.0 new (All-tail (λ (e : Exchange). tells_all e.asked ≡ true) exchange rest all) does.2
      (answers-tell exchange.asked exchange.answers checked told old does.0 (All-head (λ (e : Exchange). tells_all e.asked ≡ true) exchange rest all) does.1 so))

  -- a session keeps its profile
  each-keeps : (asked : ScriptLine) (answers : List Answer) (old new : Session K A L W) → DoesEach asked answers old new → new.profile ≡ old.profile
  each-keeps asked [] old new same = ap (λ (s : Session K A L W). s.profile) same
  each-keeps asked (given ∷ later) old new does = let terms : KeepsTerms old does.0 = does.2 in each-keeps asked later does.0 new does.3 ∙ terms.profile

  all-keep : (story : List Exchange) (old new : Session K A L W) → DoesAll story old new → new.profile ≡ old.profile
  all-keep [] old new same = ap (λ (s : Session K A L W). s.profile) same
  all-keep (exchange ∷ later) old new does = all-keep later does.0 new does.2 ∙ each-keeps exchange.asked exchange.answers old does.0 does.1

  -- behind the first lines
  behind : (before rest : List Exchange) (old new : Session K A L W) → DoesAll (before ++ rest) old new → (mid : Session K A L W) × DoesAll rest mid new
  behind [] rest old new does = (old, does)
  behind (exchange ∷ before) rest old new does = behind before rest does.0 new does.2

  pub tells_its_lists : TellsItsLists K A L W
  tells_its_lists story rest first last whole does it runs =
      let from = behind whole.before (whole.begin ∷ rest) first last (subst (λ (s : List Exchange). DoesAll s first last) whole.is does) in
      let mid : Session K A L W = from.0 in
      let from-mid : DoesAll (whole.begin ∷ rest) mid last = from.1 in
      let begun : Session K A L W = from-mid.0 in
      let one : DoesEach whole.begin.asked (whole.given ∷ []) mid begun = subst (λ (answers : List Answer). DoesEach whole.begin.asked answers mid begun) whole.answered from-mid.1 in
      let same : begun ≡ one.0 = one.3 in
      let so : SoFarIn mid.profile.checked (λ channel. []) begun = subst (λ (s : Session K A L W). SoFarIn mid.profile.checked (λ channel. []) s) (sym same) (line-begins whole.begin.asked whole.given mid one.0 whole.begins one.1) in
      let all = story-tells rest mid.profile.checked (λ channel. []) begun last whole.tells from-mid.2 so it runs in
      let kept : last.profile ≡ mid.profile = all-keep rest begun last from-mid.2 ∙ each-keeps whole.begin.asked whole.begin.answers mid begun from-mid.1 in
      record { checked = all.checked_is ∙ ap (λ (p : Profile). p.checked) (sym kept); lists = all.lists }
