-- A device that counts no fault is spared: a machine is stranded only where a step of its save failed.
use Rattle.save_device.specs.Device.{faults_of}
use Rattle.arm_state.specs.Modes.{is_stranded}
use Rattle.nv_machine.specs.Headline.{IsSpared, Rests, paused}
use Rattle.nv_machine.specs.Honesty.{ArmsNone, IsSparedAlong, RunsSpared}
use Rattle.nv_machine.specs.Machine.{step_call}
use Rattle.nv_machine.proofs.Common.{All, Bool, List, [], ap, arith, false, is_backed, is_low, read_as, refl, subst, sym, true, ℕ, ◌++◌, ◌∙◌, ◌∷◌, ◌≡◌, faults_more, DeviceState, mode_after, DrainOrder, Loss, Mode, Move, LoseStep, MachineStep, Machine, Run, Setup, World, Event, Reply}
use Rattle.nv_machine.proofs.Effects.{Effect, rests, shows, runs_low, disarms, accepts, begins, arms, fails_to_arm, steps, ends, repeats, fails, closes, effect}
use Rattle.std.proofs.lemmas.List.Elements.{All-head, All-tail}
use Rattle.nv_machine.proofs.JoinedRuns.{happens_later, rests_twice}
use Rattle.nv_machine.proofs.CountedFaults.{Counts, event_counts, run_counts}

abbrev off : Machine → Bool
off m = is_stranded m.mode

-- the end of a save strands no machine
ended_off : (mode : Mode) → is_stranded mode ≡ false → is_stranded (mode_after Move.EndSave mode) ≡ false
ended_off mode was = grind arith

loss_off : (order : DrainOrder) (setup : Setup) (old new : World) (loss : Loss) → LoseStep order setup loss old new → off old.machine ≡ false → off new.machine ≡ false
loss_off order setup old new Loss.Closed done was = ap (λ (w : World). off w.machine) done.1 ∙ was
loss_off order setup old new Loss.Unsaved done was = ap (λ (w : World). off w.machine) done.1
loss_off order setup old new (Loss.Saved generation count) done was = ap is_stranded done.mode
loss_off order setup old new Loss.Dark done was = ap is_stranded done.mode
loss_off order setup old new Loss.Fault done was = ap is_stranded done.mode

effect_off : (setup : Setup) (old new : World) (event : Event) (reply : Reply) → Effect setup old new event reply → off old.machine ≡ false → faults_of new.device ≡ faults_of old.device → off new.machine ≡ false
effect_off setup old new event reply (rests silent waits is fewer gauge) was same = ap off is ∙ was
effect_off setup old new event reply (shows silent reading is reads asks high) was same = ap off is ∙ was
effect_off setup old new event reply (runs_low silent reading is reads low) was same = ap off is
effect_off setup old new event reply (disarms done gauge) was same = ap off done.1
effect_off setup old new event reply (accepts write accepted done gauge) was same = ap off done.1.is ∙ was
effect_off setup old new event reply (begins done gauge) was same = ap off done.1 ∙ was
effect_off setup old new event reply (arms done) was same = ap off done.2
effect_off setup old new event reply (fails_to_arm done) was same = ap off done.2 ∙ was
effect_off setup old new event reply (steps made done) was same = ap off done.6.2 ∙ was
effect_off setup old new event reply (ends generation count done) was same = ap off done.6.3 ∙ ended_off old.machine.mode was
effect_off setup old new event reply (repeats done) was same = ap off done.6.1 ∙ was
effect_off setup old new event reply (fails done) was same =
    let one = faults_more (step_call old.machine.store.closed done.0.next ∷ []) old.device.calls new.device.calls done.5 in absurd (let bad : ⊥ = omega (arith, one, same) in bad)
effect_off setup old new event reply (closes order loss done) was same = loss_off order setup old new loss done was

event_off : (setup : Setup) (event : Event) (reply : Reply) (old new : World) → MachineStep setup event reply old new → off old.machine ≡ false → faults_of new.device ≡ faults_of old.device → off new.machine ≡ false
event_off setup event reply old new done = effect_off setup old new event reply (effect setup old new event reply done)

spared_where : (retries : ℕ) (mode : Mode) (reply : Reply) (old new : DeviceState) → is_stranded mode ≡ false → faults_of new ≡ faults_of old → IsSpared retries mode reply old new
spared_where retries mode (Reply.Lose loss) old new was same = omega (arith, same)
spared_where retries Mode.Stranded (Reply.SaveStep reply) old new was same = absurd (let bad : ⊥ = cc in bad)
spared_where retries mode reply old new was same = tt

module _ (setup : Setup) where
  -- A device that has counted no fault from the beginning of a run to its end was spared in each event.
  pub spared_ends : (events : List Event) (replies : List Reply) (old new : World) (run : Run setup events replies old new) → is_stranded old.machine.mode ≡ false
      → faults_of new.device ≡ faults_of old.device → IsSparedAlong setup events replies old new run
  spared_ends [] [] old new run was same = tt
  spared_ends (event ∷ events) (reply ∷ replies) old new run was same =
      let from : World = paused run.1.pause old in
      let here : Counts from run.0 = event_counts setup event reply from run.0 run.1.happens.step in let rest : Counts run.0 new = run_counts setup events replies run.0 new run.2 in
      let first : faults_of run.0.device ≡ faults_of old.device = omega (arith, here.device, rest.device, same) in
      let next : faults_of new.device ≡ faults_of run.0.device = omega (arith, here.device, rest.device, same) in (
        spared_where setup.shape.costs.retries old.machine.mode reply old.device run.0.device was first,
        spared_ends events replies run.0 new run.2 (event_off setup event reply from run.0 run.1.happens.step was first) next,
      )
  spared_ends _ _ old new none was same = absurd none

abbrev unbacked : Machine → Type 0
unbacked m = is_backed m.mode ≡ false

-- the end of a save, good or bad, backs nothing
ended_unbacked : (mode : Mode) → is_backed mode ≡ false → is_backed (mode_after Move.EndSave mode) ≡ false
ended_unbacked mode was = grind arith

failed_unbacked : (mode : Mode) → is_backed mode ≡ false → is_backed (mode_after Move.FailSave mode) ≡ false
failed_unbacked mode was = grind arith

-- a reading is low where a machine is armed
low_armed : (setup : Setup) (reading : ℕ) (m : Machine) → is_backed m.mode ≡ false → is_low setup (read_as reading m) ≡ true → ⊥
low_armed setup reading m was low = grind arith

loss_unbacked : (order : DrainOrder) (setup : Setup) (old new : World) (loss : Loss) → LoseStep order setup loss old new → unbacked old.machine → unbacked new.machine
loss_unbacked order setup old new Loss.Closed done was = ap (λ (w : World). is_backed w.machine.mode) done.1 ∙ was
loss_unbacked order setup old new Loss.Unsaved done was = ap (λ (w : World). is_backed w.machine.mode) done.1
loss_unbacked order setup old new (Loss.Saved generation count) done was = absurd (let bad : ⊥ = cc (done.closes.backed, was) in bad)
loss_unbacked order setup old new Loss.Dark done was = absurd (let bad : ⊥ = cc (done.closes.backed, was) in bad)
loss_unbacked order setup old new Loss.Fault done was = absurd (let bad : ⊥ = cc (done.closes.backed, was) in bad)

effect_unbacked : (setup : Setup) (old new : World) (event : Event) (reply : Reply) → Effect setup old new event reply → ArmsNone reply → unbacked old.machine → unbacked new.machine
effect_unbacked setup old new event reply (rests silent waits is fewer gauge) none was = ap (λ (m : Machine). is_backed m.mode) is ∙ was
effect_unbacked setup old new event reply (shows silent reading is reads asks high) none was = ap (λ (m : Machine). is_backed m.mode) is ∙ was
effect_unbacked setup old new event reply (runs_low silent reading is reads low) none was = absurd (low_armed setup reading old.machine was low)
effect_unbacked setup old new event reply (disarms done gauge) none was = let on : is_backed old.machine.mode ≡ true = ap is_backed done.0 in absurd (let bad : ⊥ = cc (on, was) in bad)
effect_unbacked setup old new event reply (accepts write accepted done gauge) none was = ap (λ (m : Machine). is_backed m.mode) done.1.is ∙ was
effect_unbacked setup old new event reply (begins done gauge) none was = ap (λ (m : Machine). is_backed m.mode) done.1 ∙ was
effect_unbacked setup old new event reply (arms done) none was = absurd none
effect_unbacked setup old new event reply (fails_to_arm done) none was = ap (λ (m : Machine). is_backed m.mode) done.2 ∙ was
effect_unbacked setup old new event reply (steps made done) none was = ap (λ (m : Machine). is_backed m.mode) done.6.2 ∙ was
effect_unbacked setup old new event reply (ends generation count done) none was = ap (λ (m : Machine). is_backed m.mode) done.6.3 ∙ ended_unbacked old.machine.mode was
effect_unbacked setup old new event reply (repeats done) none was = ap (λ (m : Machine). is_backed m.mode) done.6.1 ∙ was
effect_unbacked setup old new event reply (fails done) none was = ap (λ (m : Machine). is_backed m.mode) done.6.1 ∙ failed_unbacked old.machine.mode was
effect_unbacked setup old new event reply (closes order loss done) none was = loss_unbacked order setup old new loss done was

loss_spares : (order : DrainOrder) (setup : Setup) (old new : World) (loss : Loss) → LoseStep order setup loss old new → unbacked old.machine → faults_of new.device ≡ faults_of old.device
loss_spares order setup old new Loss.Closed done was = ap (λ (w : World). faults_of w.device) done.1
loss_spares order setup old new Loss.Unsaved done was = ap (λ (w : World). faults_of w.device) done.1
loss_spares order setup old new (Loss.Saved generation count) done was = absurd (let bad : ⊥ = cc (done.closes.backed, was) in bad)
loss_spares order setup old new Loss.Dark done was = absurd (let bad : ⊥ = cc (done.closes.backed, was) in bad)
loss_spares order setup old new Loss.Fault done was = absurd (let bad : ⊥ = cc (done.closes.backed, was) in bad)

lost_unbacked : (setup : Setup) (event : Event) (loss : Loss) (old new : World) → MachineStep setup event (Reply.Lose loss) old new → unbacked old.machine → faults_of new.device ≡ faults_of old.device
lost_unbacked setup Event.Lose loss old new done was = loss_spares done.0 setup old new loss done.1 was
lost_unbacked setup event loss old new none was = absurd none

event_spares : (setup : Setup) (event : Event) (reply : Reply) (mode : Mode) (old new : World) → MachineStep setup event reply old new → mode ≡ old.machine.mode → unbacked old.machine
    → IsSpared setup.shape.costs.retries mode reply old.device new.device
event_spares setup event (Reply.Lose loss) mode old new done same was = let is = lost_unbacked setup event loss old new done was in omega (arith, is)
event_spares setup event (Reply.SaveStep reply) Mode.Stranded old new done same was = let on : is_backed old.machine.mode ≡ true = ap is_backed (sym same) in absurd (let bad : ⊥ = cc (on, was) in bad)
event_spares setup event reply mode old new done same was = tt

module _ (setup : Setup) where
  -- Before a machine is armed whatever fails spares the device.
  pub unarmed_spared : (events : List Event) (replies : List Reply) (old new : World) (run : Run setup events replies old new) → unbacked old.machine → All ArmsNone replies
      → IsSparedAlong setup events replies old new run
  unarmed_spared [] [] old new run was none = tt
  unarmed_spared (event ∷ events) (reply ∷ replies) old new run was none =
      let from : World = paused run.1.pause old in let step = run.1.happens.step in (
        event_spares setup event reply old.machine.mode from run.0 step refl was,
        unarmed_spared events replies run.0 new run.2 (effect_unbacked setup from run.0 event reply (effect setup from run.0 event reply step) (All-head ArmsNone reply replies none) was)
            (All-tail ArmsNone reply replies none),
      )
  unarmed_spared _ _ old new none was unarmed = absurd none

  -- a run that spared the device goes on by another one
  later_spared : (event : Event) (reply : Reply) (old mid new : World) → Rests old mid → IsSpared setup.shape.costs.retries mid.machine.mode reply mid.device new.device
      → IsSpared setup.shape.costs.retries old.machine.mode reply old.device new.device
  later_spared event reply old mid new between spared = subst (λ (w : World). IsSpared setup.shape.costs.retries w.machine.mode reply w.device new.device) between.is spared

  pub spared_on : (events more : List Event) (replies others : List Reply) (old mid new : World) → RunsSpared setup events replies old mid → RunsSpared setup more others mid new
      → RunsSpared setup (events ++ more) (replies ++ others) old new
  spared_on [] [] [] [] old mid new first next = record { run = rests_twice old mid new first.run next.run; spared = tt }
  spared_on [] (e ∷ more) [] (r ∷ others) old mid new first next = record {
    run = (next.run.0, happens_later setup e r old mid next.run.0 first.run next.run.1, next.run.2);
    spared = (later_spared e r old mid next.run.0 first.run next.spared.0, next.spared.1);
  }
  spared_on (e ∷ events) more (r ∷ replies) others old mid new first next =
      let rest = spared_on events more replies others first.run.0 mid new (record { run = first.run.2; spared = first.spared.1 }) next in
      record { run = (first.run.0, first.run.1, rest.run); spared = (first.spared.0, rest.spared) }
  spared_on [] [] [] (r ∷ others) old mid new first next = absurd next.run
  spared_on [] (e ∷ more) [] [] old mid new first next = absurd next.run
  spared_on [] more (r ∷ replies) others old mid new first next = absurd first.run
  spared_on (e ∷ events) more [] others old mid new first next = absurd first.run
