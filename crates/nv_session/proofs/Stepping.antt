-- One step of a save, which is begun where none runs.
use Rattle.std.proofs.Common.{◌≡◌, inl, inr, List, [], ◌∷◌, ◌++◌, refl, ap, Ok, Err}
use Rattle.nv_session.proofs.Common.{Answers, ArmRefusal, Assembly, Comes, Event, Ghosts, Machine, MakesOneStep, Reply}
use Rattle.nv_session.proofs.Common.{SameWrites, StepReply, World, setup_of, world_of}
use Rattle.nv_machine.specs.declared.events.Event.TheVariants as events
use Rattle.nv_machine.specs.declared.events.Reply.TheVariants as replies
use Rattle.nv_machine.specs.declared.events.StepReply.TheVariants as step
use Rattle.nv_session.proofs.Coming.{Starts, starts_at, comes_further, comes_retold}
use Rattle.nv_session.proofs.SaveSteps.{step_keeps, step_ends, begin_keeps, same_writes_on}

-- these events had these replies, and the writes stayed
pub record SoFar (asked : List Event) (given : List Reply) (events : List Event) (replies : List Reply) (old new : Machine) : Type 0 where
  pub events_are : events ≡ asked
  pub replies_are : replies ≡ given
  pub same : SameWrites old new

started : (es : List Event) (rs : List Reply) (m n : Machine) → Starts es rs m n → SoFar [] [] es rs m n
started es rs m n told =
    record {
      events_are = told.unasked;
      replies_are = told.untold;
      same = record { opened = ap (λ (x : Machine). x.life.opened) told.same; writes = ap (λ (x : Machine). x.life.writes) told.same };
    }

further : (asked : List Event) (given : List Reply) (event : Event) (reply : Reply) (es : List Event) (rs : List Reply) (m n l : Machine)
    → SoFar asked given es rs m n → SameWrites n l → SoFar (asked ++ event ∷ []) (given ++ reply ∷ []) (es ++ event ∷ []) (rs ++ reply ∷ []) m l
further asked given event reply es rs m n l told same =
    record {
      events_are = ap (λ (xs : List Event). xs ++ event ∷ []) told.events_are;
      replies_are = ap (λ (xs : List Reply). xs ++ reply ∷ []) told.replies_are;
      same = same_writes_on m n l told.same same;
    }

abbrev asked_step : List Event
asked_step = events.SaveStep ∷ []

abbrev told_none : List Reply
told_none = replies.SaveStep step.NoSave ∷ []

abbrev asked_begin : List Event
asked_begin = events.SaveStep ∷ events.SaveBegin ∷ []

abbrev told_begun : List Reply
told_begun = replies.SaveStep step.NoSave ∷ replies.SaveBegin (Ok tt) ∷ []

module _ {K : Type 0} (L : Ghosts K) where
  pub so_far : (it : Assembly L) → Comes L (SoFar [] []) it it
  so_far it = comes_retold L Starts (SoFar [] []) it it (starts_at L it) started

  pub none_ran : (old new : Assembly L) → Answers L events.SaveStep (replies.SaveStep step.NoSave) old new → Comes L (SoFar asked_step told_none) old new
  none_ran old new answers =
      comes_further L (SoFar [] []) (SoFar asked_step told_none) events.SaveStep (replies.SaveStep step.NoSave) old old new refl (so_far old) answers
      (λ es rs m n l stands told happens.
      further [] [] events.SaveStep (replies.SaveStep step.NoSave) es rs m n l told (step_keeps (setup_of L old.it) step.NoSave (world_of L old n) (world_of L new l) happens.step))

  pub then_begun : (old mid new : Assembly L) → setup_of L mid.it ≡ setup_of L old.it → Comes L (SoFar asked_step told_none) old mid
      → Answers L events.SaveBegin (replies.SaveBegin (Ok tt)) mid new → Comes L (SoFar asked_begin told_begun) old new
  then_begun old mid new same before answers =
      comes_further L (SoFar asked_step told_none) (SoFar asked_begin told_begun) events.SaveBegin (replies.SaveBegin (Ok tt)) old mid new same before answers
      (λ es rs m n l stands told happens. further asked_step told_none events.SaveBegin (replies.SaveBegin (Ok tt)) es rs m n l told (begin_keeps (Ok tt) n l happens.step.1))

  pub then_refused : (refusal : ArmRefusal) (old mid new : Assembly L) → setup_of L mid.it ≡ setup_of L old.it → Comes L (SoFar asked_step told_none) old mid
      → Answers L events.SaveBegin (replies.SaveBegin (Err refusal)) mid new → Comes L (MakesOneStep (Err refusal)) old new
  then_refused refusal old mid new same before answers =
      comes_further L (SoFar asked_step told_none) (MakesOneStep (Err refusal)) events.SaveBegin (replies.SaveBegin (Err refusal)) old mid new same before answers
      (λ es rs m n l stands told happens.
      let all = further asked_step told_none events.SaveBegin (replies.SaveBegin (Err refusal)) es rs m n l told (begin_keeps (Err refusal) n l happens.step.1) in
      record { goes_on = record { same = all.same; last = (all.events_are, all.replies_are); ends = tt }; are = (all.events_are, all.replies_are) })

  pub then_stepped : (reply : StepReply) (old mid new : Assembly L) → setup_of L mid.it ≡ setup_of L old.it → Comes L (SoFar asked_begin told_begun) old mid
      → Answers L events.SaveStep (replies.SaveStep reply) mid new → Comes L (MakesOneStep (Ok reply)) old new
  then_stepped reply old mid new same before answers =
      comes_further L (SoFar asked_begin told_begun) (MakesOneStep (Ok reply)) events.SaveStep (replies.SaveStep reply) old mid new same before answers
      (λ es rs m n l stands told happens.
      let from : World = world_of L mid n in let to : World = world_of L new l in
      let all = further asked_begin told_begun events.SaveStep (replies.SaveStep reply) es rs m n l told (step_keeps (setup_of L old.it) reply from to happens.step) in
      record { goes_on = record { same = all.same; last = (es, rs, refl, refl); ends = step_ends (setup_of L old.it) reply from to stands.guarded happens.step }; are = inr (all.events_are, all.replies_are) })

  pub one_step : (reply : StepReply) (old new : Assembly L) → (reply ≡ step.NoSave → ⊥) → Answers L events.SaveStep (replies.SaveStep reply) old new → Comes L (MakesOneStep (Ok reply)) old new
  one_step reply old new ran answers =
      comes_further L (SoFar [] []) (MakesOneStep (Ok reply)) events.SaveStep (replies.SaveStep reply) old old new refl (so_far old) answers
      (λ es rs m n l stands told happens.
      let from : World = world_of L old n in let to : World = world_of L new l in
      let all = further [] [] events.SaveStep (replies.SaveStep reply) es rs m n l told (step_keeps (setup_of L old.it) reply from to happens.step) in
      record { goes_on = record { same = all.same; last = (es, rs, refl, refl); ends = step_ends (setup_of L old.it) reply from to stands.guarded happens.step }; are = inl (ran, all.events_are, all.replies_are) })
