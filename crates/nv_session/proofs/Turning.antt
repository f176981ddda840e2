-- The turns of a save: steps, and works between them.
use Rattle.std.proofs.Common.{◌≡◌, ℕ, suc, ◌≤◌, true, List, [], ◌∷◌, ◌++◌, refl, sym, ap, subst, arith, Option, Some, None, Ok, Err}
use Rattle.nv_session.proofs.Common.{Answers, AnswersAlone, ArmRefusal, Assembly, Comes, ComesAlone, Event, Ghosts}
use Rattle.nv_session.proofs.Common.{GoesOnSaving, Machine, MakesSave, MakesOneStep, Module, Reply, SameButWaits, SameWrites}
use Rattle.nv_session.proofs.Common.{Setup, StepReply, TakesSteps, WorkStep, WorksBehind, WorksEach, World, assembly}
use Rattle.nv_session.proofs.Common.{is_underway, setup_of, world_of}
use Rattle.channel_port.specs.declared.answers.Done.{Done}
use Rattle.nv_machine.specs.declared.events.Event.TheVariants as events
use Rattle.nv_machine.specs.declared.events.Reply.TheVariants as replies
use Rattle.nv_machine.specs.declared.events.StepReply.TheVariants as step
use Rattle.nv_session.specs.SaveTurns.{AreWorksBehind}
use Rattle.nv_session.proofs.Coming.{comes_to_itself, comes_further, comes_on, comes_retold}
use Rattle.nv_session.proofs.Awaiting.{same_after}
use Rattle.nv_session.proofs.SaveSteps.{step_keeps, step_ends, same_writes_on, waits_keep}

-- nothing but what waits changes by a work
works_on : (setup : Setup) (channel : ℕ) (done : Option Done) (m n l : Machine) → SameButWaits m n → WorkStep setup channel done n l → SameButWaits m l
works_on setup channel None m n l same step = subst (λ (x : Machine). SameButWaits m x) (sym step) same
works_on setup channel (Some done) m n l same step = same_after m n l same step.2

-- a save was begun or went on, and has made so many steps, of which the last has this reply
pub record HasMade (channels steps : ℕ) (reply : StepReply) (asked : List Event) (told : List Reply) (old new : Machine) : Type 0 where
  pub goes_on : GoesOnSaving (Ok reply) asked told old new
  pub further : ℕ
  pub steps_are : steps ≡ suc further
  pub takes : TakesSteps channels further reply asked told

-- and behind it the works
pub record HasWorked (channels steps : ℕ) (was : StepReply) (asked : List Event) (told : List Reply) (old new : Machine) : Type 0 where
  pub same : SameWrites old new
  pub further : ℕ
  pub steps_are : steps ≡ suc further
  pub before : List Event
  pub given : List Reply
  pub takes : TakesSteps channels further was before given
  pub works : List Event
  pub done : List Reply
  pub behind : AreWorksBehind channels was works done
  pub asked_is : asked ≡ before ++ works
  pub told_is : told ≡ given ++ done

-- no works behind a step that hadn't to wait
none_behind : (channels : ℕ) (reply : StepReply) → (reply ≡ step.Waiting → ⊥) → AreWorksBehind channels reply [] []
none_behind channels step.Waiting other = absurd (other refl)
none_behind channels (step.Did made) other = (refl, refl)
none_behind channels step.NoSave other = (refl, refl)
none_behind channels step.Turned other = (refl, refl)
none_behind channels step.Retry other = (refl, refl)
none_behind channels (step.Saved generation count) other = (refl, refl)
none_behind channels step.Fault other = (refl, refl)

module _ {K : Type 0} (L : Ghosts K) where
  pub no_work : (it : Module K L) → ComesAlone L (WorksEach 0) it it
  no_work it device gauge = comes_to_itself L (WorksEach 0) (assembly it device gauge) (λ m. record { same = refl; are = (refl, refl) })

  pub one_work : (channel : ℕ) (done : Option Done) (old mid new : Module K L) → setup_of L mid ≡ setup_of L old
      → ComesAlone L (WorksEach channel) old mid → AnswersAlone L (events.Work channel) (replies.Work done) mid new → ComesAlone L (WorksEach (suc channel)) old new
  one_work channel done old mid new same before next device gauge =
      comes_further L (WorksEach channel) (WorksEach (suc channel)) (events.Work channel) (replies.Work done) (assembly old device gauge) (assembly mid device gauge) (assembly new device gauge) same
      (before device gauge) (next device gauge)
      (λ es rs m n l stands told happens. record { same = works_on (setup_of L old) channel done m n l told.same happens.step.1; are = (es, rs, done, told.are, refl, refl) })

  -- works behind a step that had to wait
  pub waited : (channels : ℕ) (old new : Module K L) → ComesAlone L (WorksEach channels) old new → ComesAlone L (WorksBehind channels step.Waiting) old new
  waited channels old new works device gauge =
      comes_retold L (WorksEach channels) (WorksBehind channels step.Waiting) (assembly old device gauge) (assembly new device gauge) (works device gauge) (λ es rs m n told. record { same = told.same; are = told.are })

  -- none behind another
  pub did_not_wait : (channels : ℕ) (reply : StepReply) (it : Module K L) → (reply ≡ step.Waiting → ⊥) → ComesAlone L (WorksBehind channels reply) it it
  did_not_wait channels reply it other device gauge = comes_to_itself L (WorksBehind channels reply) (assembly it device gauge) (λ m. record { same = refl; are = none_behind channels reply other })

  pub made_one : (channels : ℕ) (reply : StepReply) (old new : Assembly L) → Comes L (MakesOneStep (Ok reply)) old new → Comes L (HasMade channels 1 reply) old new
  made_one channels reply old new comes =
      comes_retold L (MakesOneStep (Ok reply)) (HasMade channels 1 reply) old new comes (λ es rs m n told. record { goes_on = told.goes_on; further = 0; steps_are = refl; takes = told.are })

  pub made_none : (channels : ℕ) (refusal : ArmRefusal) (old new : Assembly L) → Comes L (MakesOneStep (Err refusal)) old new → Comes L (MakesSave channels (Err refusal)) old new
  made_none channels refusal old new comes =
      comes_retold L (MakesOneStep (Err refusal)) (MakesSave channels (Err refusal)) old new comes (λ es rs m n told. record { goes_on = told.goes_on; are = told.are })

  pub then_works : (channels steps : ℕ) (was : StepReply) (old mid new : Assembly L) → setup_of L mid.it ≡ setup_of L old.it → Comes L (HasMade channels steps was) old mid
      → Comes L (WorksBehind channels was) mid new → Comes L (HasWorked channels steps was) old new
  then_works channels steps was old mid new same before works =
      comes_on L (HasMade channels steps was) (WorksBehind channels was) (HasWorked channels steps was) old mid new same before works
      (λ es fs rs ts m n l told next.
      record {
        same = same_writes_on m n l told.goes_on.same (waits_keep n l next.same);
        further = told.further;
        steps_are = told.steps_are;
        before = es;
        given = rs;
        takes = told.takes;
        works = fs;
        done = ts;
        behind = next.are;
        asked_is = refl;
        told_is = refl;
      })

  pub then_steps : (channels steps : ℕ) (was reply : StepReply) (old mid new : Assembly L) → setup_of L mid.it ≡ setup_of L old.it → is_underway was ≡ true
      → Comes L (HasWorked channels steps was) old mid → Answers L events.SaveStep (replies.SaveStep reply) mid new → Comes L (HasMade channels (suc steps) reply) old new
  then_steps channels steps was reply old mid new same underway before answers =
      comes_further L (HasWorked channels steps was) (HasMade channels (suc steps) reply) events.SaveStep (replies.SaveStep reply) old mid new same before answers
      (λ es rs m n l stands told happens.
      let from : World = world_of L mid n in let to : World = world_of L new l in
      record {
        goes_on = record { same = same_writes_on m n l told.same (step_keeps (setup_of L old.it) reply from to happens.step); last = (es, rs, refl, refl); ends = step_ends (setup_of L old.it) reply from to stands.guarded happens.step };
        further = suc told.further;
        steps_are = ap suc told.steps_are;
        takes = (
          was,
          told.before,
          told.given,
          told.takes,
          record {
            underway = underway;
            works = told.works;
            done = told.done;
            behind = told.behind;
            asked_is = ap (λ (xs : List Event). xs ++ events.SaveStep ∷ []) told.asked_is;
            told_is = ap (λ (xs : List Reply). xs ++ replies.SaveStep reply ∷ []) told.told_is;
          },
        );
      })

  -- the last step
  pub made_all : (channels steps : ℕ) (reply : StepReply) (old new : Assembly L) → steps ≤ 4096 → (is_underway reply ≡ true → steps ≡ 4096)
      → Comes L (HasMade channels steps reply) old new → Comes L (MakesSave channels (Ok reply)) old new
  made_all channels steps reply old new most ends comes =
      comes_retold L (HasMade channels steps reply) (MakesSave channels (Ok reply)) old new comes
      (λ es rs m n told.
      record {
        goes_on = told.goes_on;
        are = record { further = told.further; most = omega (arith, most, told.steps_are); takes = told.takes; ends = λ underway. omega (arith, ends underway, told.steps_are) };
      })
