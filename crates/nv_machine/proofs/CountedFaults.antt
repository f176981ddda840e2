-- In any event the gauge keeps its leak, and neither its count of faults nor the device's falls.
use Rattle.std.specs.Prelude.{Result, cond, map, not}
use Rattle.std.proofs.lemmas.List.Sums.{sum_by-append}
use Rattle.save_device.specs.Calls.{MakesCalls, all_good, faults_in}
use Rattle.save_device.specs.Device.{faults_of}
use Rattle.save_device.specs.declared.calls.Call.{Call}
use Rattle.save_device.specs.declared.calls.CallKind.{CallKind}
use Rattle.arm_state.specs.declared.refusal.ArmRefusal.{ArmRefusal}
use Rattle.arm_state.specs.declared.refusal.ArmReply.{ArmReply}
use Rattle.nv_machine.specs.Headline.{paused}
use Rattle.nv_machine.specs.Honesty.{IsHonestAlong, IsSparedAlong}
use Rattle.nv_machine.specs.Losses.{PaysFirst}
use Rattle.nv_machine.specs.Machine.{ArmStep, SaveStepStep, arm_calls, step_call}
use Rattle.nv_machine.specs.declared.events.StepReply.{StepReply}
use Rattle.nv_machine.proofs.Common.{Bool, List, [], ap, arith, false, refl, true, ℕ, ◌++◌, ◌∙◌, ◌∷◌, ◌≡◌, ◌≤◌, Err, Ok, faults_more, DeviceState, DrainOrder, Loss, Gauge, GaugeCall, total_cost, IsHonestThrough, ReadsLevel, Action, LoseStep, MachineStep, Run, Setup, World, Event, Reply}
use Rattle.nv_machine.proofs.Effects.{Effect, rests, shows, runs_low, disarms, accepts, begins, arms, fails_to_arm, steps, ends, repeats, fails, closes, effect}
use Rattle.nv_machine.proofs.Payments.{IsPaid, paid_of}

-- the gauge keeps its leak, and its count of faults
record GaugeCounts (old new : Gauge) : Type 0 where
  counted : old.faults ≤ new.faults
  same_leak : new.leak ≡ old.leak

pub record Counts (old new : World) : Type 0 where
  pub gauge : old.gauge.faults ≤ new.gauge.faults
  pub leak : new.gauge.leak ≡ old.gauge.leak
  pub device : faults_of old.device ≤ faults_of new.device

unasked : (old new : Gauge) → new ≡ old → GaugeCounts old new
unasked old new same = rw same (record { counted = omega arith; same_leak = refl })

asked : {kind : GaugeCall} (answer : ℕ) (old new : Gauge) → ReadsLevel kind old answer new → GaugeCounts old new
asked answer old new reads = record { counted = reads.counted; same_leak = reads.same_leak }

-- it was read once, and then paid from
paid_first : (setup : Setup) (old : World) (reading : ℕ) (paid : List (List Action)) (gauge : Gauge) → PaysFirst setup old reading paid gauge → GaugeCounts old.gauge gauge
paid_first setup old reading paid gauge p =
    let rest : IsPaid (map (total_cost setup.shape.costs) paid) p.ticked gauge = paid_of (map (total_cost setup.shape.costs) paid) p.ticked gauge p.pays in
    record { counted = omega (arith, p.reads.counted, rest.counted); same_leak = rest.same_leak ∙ p.reads.same_leak }

gauge_in_loss : (order : DrainOrder) (setup : Setup) (old new : World) (loss : Loss) → LoseStep order setup loss old new → GaugeCounts old.gauge new.gauge
gauge_in_loss order setup old new Loss.Closed done = unasked old.gauge new.gauge (ap (λ (w : World). w.gauge) done.1)
gauge_in_loss order setup old new Loss.Unsaved done = unasked old.gauge new.gauge (ap (λ (w : World). w.gauge) done.1)
gauge_in_loss order setup old new (Loss.Saved generation count) done = paid_first setup old _ _ new.gauge done.pays
gauge_in_loss order setup old new Loss.Dark done =
    let first = paid_first setup old _ _ done.mid done.pays in record { counted = omega (arith, first.counted, done.refused.counted); same_leak = done.refused.same_leak ∙ first.same_leak }
gauge_in_loss order setup old new Loss.Fault done = paid_first setup old _ _ new.gauge done.pays

gauge_counts : (setup : Setup) (old new : World) (event : Event) (reply : Reply) → Effect setup old new event reply → GaugeCounts old.gauge new.gauge
gauge_counts setup old new event reply (rests silent waits is fewer gauge) = unasked old.gauge new.gauge gauge
gauge_counts setup old new event reply (shows silent reading is reads asks high) = asked reading old.gauge new.gauge reads
gauge_counts setup old new event reply (runs_low silent reading is reads low) = asked reading old.gauge new.gauge reads
gauge_counts setup old new event reply (disarms done gauge) = unasked old.gauge new.gauge gauge
gauge_counts setup old new event reply (accepts write accepted done gauge) = unasked old.gauge new.gauge gauge
gauge_counts setup old new event reply (begins done gauge) = unasked old.gauge new.gauge gauge
gauge_counts setup old new event reply (arms done) = asked _ old.gauge new.gauge done.0.reads
gauge_counts setup old new event reply (fails_to_arm done) = asked _ old.gauge new.gauge done.0.reads
gauge_counts setup old new event reply (steps made done) = asked done.2 old.gauge new.gauge done.3
gauge_counts setup old new event reply (ends generation count done) = asked done.2 old.gauge new.gauge done.3
gauge_counts setup old new event reply (repeats done) = asked done.2 old.gauge new.gauge done.3
gauge_counts setup old new event reply (fails done) = asked done.2 old.gauge new.gauge done.3
gauge_counts setup old new event reply (closes order loss done) = gauge_in_loss order setup old new loss done

-- calls of the device: of these one may have failed
calls_more : (kinds : List CallKind) (good : Bool) (old new : List Call) → MakesCalls kinds good old new → faults_in old ≤ faults_in new
calls_more kinds true old new made = omega (arith, ap faults_in made, sum_by-append (λ (call : Call). cond (not call.is_good) 1 0) old (all_good kinds))
calls_more kinds false old new made = omega (arith, faults_more kinds old new made)

further_calls : (old new more : List Call) → new ≡ old ++ more → faults_in old ≤ faults_in new
further_calls old new more is = omega (arith, ap faults_in is, sum_by-append (λ (call : Call). cond (not call.is_good) 1 0) old more)

-- the device is as it was
uncalled : (old new : DeviceState) → new ≡ old → faults_of old ≤ faults_of new
uncalled old new same = omega (arith, ap faults_of same)

same_device : (old new : World) → new ≡ old → faults_of old.device ≤ faults_of new.device
same_device old new same = uncalled old.device new.device (ap (λ (w : World). w.device) same)

alone : (old new : World) → new ≡ record old { machine = new.machine; gauge = new.gauge } → faults_of old.device ≤ faults_of new.device
alone old new is = uncalled old.device new.device (ap (λ (w : World). w.device) is)

device_in_arming : (setup : Setup) (old new : World) (result : Result ArmReply ArmRefusal) → ArmStep setup result old new → faults_of old.device ≤ faults_of new.device
device_in_arming setup old new (Ok ArmReply.AlreadyArmed) done = same_device old new done.1
device_in_arming setup old new (Ok ArmReply.Armed) done = calls_more arm_calls true old.device.calls new.device.calls done.1
device_in_arming setup old new (Err ArmRefusal.Device) done = calls_more arm_calls false old.device.calls new.device.calls done.1
device_in_arming setup old new (Err (ArmRefusal.NeedEnergy need has)) done = uncalled old.device new.device (ap (λ (w : World). w.device) done.is)
device_in_arming setup old new (Err refusal) done = same_device old new done.2

device_in_step : (setup : Setup) (old new : World) (reply : StepReply) → SaveStepStep setup reply old new → faults_of old.device ≤ faults_of new.device
device_in_step setup old new StepReply.NoSave done = same_device old new done.1
device_in_step setup old new StepReply.Waiting done = same_device old new done.3
device_in_step setup old new StepReply.Turned done = uncalled old.device new.device (ap (λ (w : World). w.device) done.5)
device_in_step setup old new (StepReply.Did made) done = calls_more (step_call old.machine.store.closed done.0.next ∷ []) true old.device.calls new.device.calls done.5
device_in_step setup old new (StepReply.Saved generation count) done = calls_more (step_call old.machine.store.closed done.0.next ∷ []) true old.device.calls new.device.calls done.5
device_in_step setup old new StepReply.Retry done = calls_more (step_call old.machine.store.closed done.0.next ∷ []) false old.device.calls new.device.calls done.5
device_in_step setup old new StepReply.Fault done = calls_more (step_call old.machine.store.closed done.0.next ∷ []) false old.device.calls new.device.calls done.5

device_in_loss : (order : DrainOrder) (setup : Setup) (old new : World) (loss : Loss) → LoseStep order setup loss old new → faults_of old.device ≤ faults_of new.device
device_in_loss order setup old new Loss.Closed done = same_device old new done.1
device_in_loss order setup old new Loss.Unsaved done = uncalled old.device new.device (ap (λ (w : World). w.device) done.1)
device_in_loss order setup old new (Loss.Saved generation count) done = further_calls old.device.calls new.device.calls _ done.calls
device_in_loss order setup old new Loss.Dark done = further_calls old.device.calls new.device.calls _ done.calls
device_in_loss order setup old new Loss.Fault done = further_calls old.device.calls new.device.calls _ done.calls

device_counts : (setup : Setup) (event : Event) (reply : Reply) (old new : World) → MachineStep setup event reply old new → faults_of old.device ≤ faults_of new.device
device_counts setup (Event.Write write) (Reply.Write result) old new done = uncalled old.device new.device (ap (λ (w : World). w.device) done.0)
device_counts setup (Event.Read line) (Reply.Read result) old new done = uncalled old.device new.device (ap (λ (w : World). w.device) done.0)
device_counts setup (Event.Collect ticket) (Reply.Collect collected) old new done = uncalled old.device new.device (ap (λ (w : World). w.device) done.0)
device_counts setup (Event.Work channel) (Reply.Work result) old new done = uncalled old.device new.device (ap (λ (w : World). w.device) done.0)
device_counts setup Event.Sense (Reply.Sense level) old new done = alone old new done.0
device_counts setup Event.Arm (Reply.Arm result) old new done = device_in_arming setup old new result done
device_counts setup Event.Disarm (Reply.Disarm result) old new done = uncalled old.device new.device (ap (λ (w : World). w.device) done.0)
device_counts setup Event.SaveBegin (Reply.SaveBegin result) old new done = uncalled old.device new.device (ap (λ (w : World). w.device) done.0)
device_counts setup Event.SaveStep (Reply.SaveStep reply) old new done = device_in_step setup old new reply done
device_counts setup Event.Lose (Reply.Lose loss) old new done = device_in_loss done.0 setup old new loss done.1
device_counts setup event reply old new none = absurd none

pub event_counts : (setup : Setup) (event : Event) (reply : Reply) (old new : World) → MachineStep setup event reply old new → Counts old new
event_counts setup event reply old new done =
    let gauge = gauge_counts setup old new event reply (effect setup old new event reply done) in
    record { gauge = gauge.counted; leak = gauge.same_leak; device = device_counts setup event reply old new done }

module _ (setup : Setup) where
  -- through a run
  pub run_counts : (events : List Event) (replies : List Reply) (old new : World) → Run setup events replies old new → Counts old new
  run_counts [] [] old new run = record {
    gauge = run.may.gauge.counted;
    leak = run.may.gauge.same_leak;
    device = omega (arith, ap (λ (w : World). faults_of w.device) run.is);
  }
  run_counts (event ∷ events) (reply ∷ replies) old new run =
      let before = run.1.may.gauge in let here : Counts (paused run.1.pause old) run.0 = event_counts setup event reply (paused run.1.pause old) run.0 run.1.happens.step in
      let rest : Counts run.0 new = run_counts events replies run.0 new run.2 in
      record {
        gauge = omega (arith, before.counted, here.gauge, rest.gauge);
        leak = rest.leak ∙ here.leak ∙ before.same_leak;
        device = omega (arith, here.device, rest.device);
      }
  run_counts _ _ old new none = absurd none

  -- A gauge that has counted no fault from the beginning of a run to its end was honest in each event, and between each two.
  pub honest_ends : (events : List Event) (replies : List Reply) (old new : World) (run : Run setup events replies old new)
      → IsHonestThrough setup.shape.costs.numbers.leak old.gauge new.gauge → IsSparedAlong setup events replies old new run → IsHonestAlong setup events replies old new run
  honest_ends [] [] old new run honest spared = honest
  honest_ends (event ∷ events) (reply ∷ replies) old new run honest spared =
      let before = run.1.may.gauge in let here : Counts (paused run.1.pause old) run.0 = event_counts setup event reply (paused run.1.pause old) run.0 run.1.happens.step in
      let rest : Counts run.0 new = run_counts events replies run.0 new run.2 in
      let same : new.gauge.faults ≡ old.gauge.faults = honest.faultless in (
        record { bounded = honest.bounded; faultless = omega (arith, before.counted, here.gauge, rest.gauge, same) },
        record {
          gauge = record { bounded = omega (arith, before.same_leak, honest.bounded); faultless = omega (arith, before.counted, here.gauge, rest.gauge, same) };
          spared = spared.0;
        },
        honest_ends events replies run.0 new run.2
            (record { bounded = omega (arith, here.leak, before.same_leak, honest.bounded); faultless = omega (arith, before.counted, here.gauge, rest.gauge, same) }) spared.1,
      )
  honest_ends _ _ old new none honest spared = absurd none
