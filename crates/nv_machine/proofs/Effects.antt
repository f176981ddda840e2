-- What an event makes of the machine: nothing, or one of its moves.
use Rattle.std.specs.Prelude.{MatchBool}
use Rattle.std.proofs.lemmas.List.Edits.{length-remove}
use Rattle.arm_state.specs.declared.refusal.ArmRefusal.{ArmRefusal}
use Rattle.arm_state.specs.declared.refusal.ArmReply.{ArmReply}
use Rattle.arm_state.specs.declared.refusal.DisarmReply.{DisarmReply}
use Rattle.channel_port.specs.Answers.{IsCollected, IsGot, IsServed}
use Rattle.channel_port.specs.Waits.{Goes, waiting}
use Rattle.channel_port.specs.declared.answers.Collected.{Collected}
use Rattle.channel_port.specs.declared.answers.Got.{Got}
use Rattle.channel_port.specs.declared.answers.Served.{Served}
use Rattle.channel_port.specs.declared.answers.Ticket.{Ticket}
use Rattle.nv_machine.specs.Machine.{ArmStep, DisarmStep, SaveBeginStep, SaveStepStep, SenseStep}
use Rattle.nv_machine.specs.Moves.{sensed}
use Rattle.nv_machine.specs.declared.events.StepReply.{StepReply}
use Rattle.nv_machine.proofs.Common.{Bool, List, [], ap, arith, false, length, refl, true, ℕ, ◌≡◌, ◌≤◌, Err, None, Ok, Option, Some, if◌then◌else◌, slice_get_within, after, Write, Step, reads_gauge, DrainOrder, Loss, Mode, ReadsLevel, Waits, SavesAllWritten, marks, LoseStep, MachineStep, WriteStep, begun, disarming, read_as, is_low, added, Machine, Setup, World, pending_of, told_mark, Accepted, Event, Reply, GaugeCall}
use Rattle.nv_machine.proofs.Refusing.{arms_where}

-- how many writes the newest image has after a reply: as many as the save of which it tells, or as before
abbrev pub KeepsNewest : Reply → ℕ → ℕ → Type 0
KeepsNewest (Reply.SaveStep (StepReply.Saved generation count)) before after = after ≡ count
KeepsNewest (Reply.Lose (Loss.Saved generation count)) before after = after ≡ count
KeepsNewest reply before after = after ≡ before

-- no write was accepted, mains weren't lost, and the reply tells of no persistent write and of no image
pub record IsSilent (event : Event) (reply : Reply) : Type 0 where
  pub adds : added event reply ≡ []
  pub told : told_mark reply ≡ 0
  pub unmarked : marks reply ≡ false
  pub keeps : (count : ℕ) → KeepsNewest reply count count
  pub saves : (m : Machine) → SavesAllWritten m reply

-- One of the moves, with what it was made for.
pub data Effect (setup : Setup) (old new : World) : Event → Reply → Type 0 where
  -- the machine stays, but for what waits
  rests : {event : Event} {reply : Reply} → IsSilent event reply → (waits : Waits) → new.machine ≡ record old.machine { waits = waits } → length waits.writes ≤ pending_of old.machine → new.gauge ≡ old.gauge
      → Effect setup old new event reply
  -- or but for a reading that isn't too low
  shows : {event : Event} {reply : Reply} {kind : GaugeCall} → IsSilent event reply → (reading : ℕ) → new.machine ≡ read_as reading old.machine → ReadsLevel kind old.gauge reading new.gauge → reads_gauge old.machine.mode ≡ true
      → is_low setup (read_as reading old.machine) ≡ false → Effect setup old new event reply
  -- the disarming is begun by a reading that is too low
  runs_low : {event : Event} {reply : Reply} {kind : GaugeCall} → IsSilent event reply → (reading : ℕ) → new.machine ≡ disarming (read_as reading old.machine) → ReadsLevel kind old.gauge reading new.gauge
      → is_low setup (read_as reading old.machine) ≡ true → Effect setup old new event reply
  disarms : DisarmStep (Ok DisarmReply.Disarming) old.machine new.machine → new.gauge ≡ old.gauge → Effect setup old new Event.Disarm (Reply.Disarm (Ok DisarmReply.Disarming))
  accepts : (write : Write) (accepted : Accepted) → WriteStep setup write (Ok accepted) old.machine new.machine → new.gauge ≡ old.gauge → Effect setup old new (Event.Write write) (Reply.Write (Ok accepted))
  begins : SaveBeginStep (Ok tt) old.machine new.machine → new.gauge ≡ old.gauge → Effect setup old new Event.SaveBegin (Reply.SaveBegin (Ok tt))
  arms : ArmStep setup (Ok ArmReply.Armed) old new → Effect setup old new Event.Arm (Reply.Arm (Ok ArmReply.Armed))
  fails_to_arm : ArmStep setup (Err ArmRefusal.Device) old new → Effect setup old new Event.Arm (Reply.Arm (Err ArmRefusal.Device))
  steps : (made : Step) → SaveStepStep setup (StepReply.Did made) old new → Effect setup old new Event.SaveStep (Reply.SaveStep (StepReply.Did made))
  ends : (generation count : ℕ) → SaveStepStep setup (StepReply.Saved generation count) old new → Effect setup old new Event.SaveStep (Reply.SaveStep (StepReply.Saved generation count))
  repeats : SaveStepStep setup StepReply.Retry old new → Effect setup old new Event.SaveStep (Reply.SaveStep StepReply.Retry)
  fails : SaveStepStep setup StepReply.Fault old new → Effect setup old new Event.SaveStep (Reply.SaveStep StepReply.Fault)
  closes : (order : DrainOrder) (loss : Loss) → LoseStep order setup loss old new → Effect setup old new Event.Lose (Reply.Lose loss)

-- what goes leaves one less
goes_less : {X : Type 0} (x : X) (old new : List X) → Goes x old new → length new ≤ length old
goes_less x old new goes = let size = length-remove old goes.0 (slice_get_within old goes.0 x goes.1) in omega (arith, ap length goes.2, size)

-- neither a command nor a read adds to the writes that wait
served_less : (hold : Option ℕ) (channel : ℕ) (s : Option Served) (old new : Waits) → IsServed hold channel s old new → length new.writes ≤ length old.writes
served_less hold channel None old new is = omega (arith, ap (λ (w : Waits). length w.writes) is)
served_less hold channel (Some (Served.Write k)) old new is = goes_less (waiting k channel) old.writes new.writes is.goes
served_less hold channel (Some (Served.Read ticket)) old new is = omega (arith, ap length is.writes)

got_less : (bytes : List ℕ) (line at channel : ℕ) (got : Got) (old new : Waits) → IsGot bytes line at channel got old new → length new.writes ≤ length old.writes
got_less bytes line at channel (Got.Now given) old new is = omega (arith, ap (λ (w : Waits). length w.writes) is.1)
got_less bytes line at channel (Got.Later ticket) old new is = omega (arith, ap length is.3)

-- and collecting changes nothing of them
pub collected_writes : (ticket : Ticket) (answer : Collected) (old new : Waits) → IsCollected ticket answer old new → new.writes ≡ old.writes
collected_writes ticket (Collected.Data line bytes at) old new is = is.1
collected_writes ticket Collected.Pending old new is = ap (λ (w : Waits). w.writes) is.4
collected_writes ticket Collected.Unknown old new is = ap (λ (w : Waits). w.writes) is.1

module _ (setup : Setup) (old new : World) where
  abbrev m : Machine
  m = old.machine

  -- the gauge wasn't asked
  unasked : new ≡ record old { machine = new.machine } → new.gauge ≡ old.gauge
  unasked alone = ap (λ (w : World). w.gauge) alone

  -- the machine is as it was
  still : {event : Event} {reply : Reply} → IsSilent event reply → new.machine ≡ m → new.gauge ≡ old.gauge → Effect setup old new event reply
  still silent is gauge = rests silent m.waits is (omega arith) gauge

  -- and the whole world is
  nothing_new : {event : Event} {reply : Reply} → IsSilent event reply → new ≡ old → Effect setup old new event reply
  nothing_new silent is = still silent (ap (λ (w : World). w.machine) is) (ap (λ (w : World). w.gauge) is)

  -- the gauge was read, or not asked
  sensed_effect : (level : ℕ) → SenseStep setup level m old.gauge new.machine new.gauge → Effect setup old new Event.Sense (Reply.Sense level)
  sensed_effect level done = by_mode (reads_gauge m.mode) refl done
    where
      read : (b : Bool) → is_low setup (read_as level m) ≡ b → new.machine ≡ (if b then disarming (read_as level m) else read_as level m) → ReadsLevel GaugeCall.Sense old.gauge level new.gauge → reads_gauge m.mode ≡ true
          → Effect setup old new Event.Sense (Reply.Sense level)
      read true low is reads asks = runs_low (search) level is reads low
      read false high is reads asks = shows (search) level is reads asks high

      by_mode : (b : Bool) → reads_gauge m.mode ≡ b → MatchBool b (ReadsLevel GaugeCall.Sense old.gauge level new.gauge × (new.machine ≡ sensed setup (read_as level m))) ((level ≡ m.reading) × (new.machine ≡ m) × (new.gauge ≡ old.gauge))
          → Effect setup old new Event.Sense (Reply.Sense level)
      by_mode true asks done = read (is_low setup (read_as level m)) refl done.1 done.0 asks
      by_mode false asks done = still (search) done.1 done.2

  pub effect : (event : Event) (reply : Reply) → MachineStep setup event reply old new → Effect setup old new event reply
  effect (Event.Write write) (Reply.Write (Ok accepted)) done = accepts write accepted done.1 (unasked done.0)
  effect (Event.Write write) (Reply.Write (Err refusal)) done = still (search) done.1.1 (unasked done.0)
  effect (Event.Read line) (Reply.Read (Ok got)) done = rests (search) new.machine.waits done.1.2 (got_less _ _ _ _ got m.waits new.machine.waits done.1.1) (unasked done.0)
  effect (Event.Read line) (Reply.Read (Err refusal)) done = still (search) done.1.1 (unasked done.0)
  effect (Event.Collect ticket) (Reply.Collect collected) done =
      rests (search) new.machine.waits done.1.1 (omega (arith, ap length (collected_writes ticket collected m.waits new.machine.waits done.1.0))) (unasked done.0)
  effect (Event.Work channel) (Reply.Work None) done = still (search) done.1 (unasked done.0)
  effect (Event.Work channel) (Reply.Work (Some work)) done =
      rests (search) new.machine.waits done.1.2 (served_less _ channel work.served m.waits new.machine.waits done.1.1) (unasked done.0)
  effect Event.Sense (Reply.Sense level) done = sensed_effect level done.1
  effect Event.Arm (Reply.Arm (Ok ArmReply.AlreadyArmed)) done = nothing_new (search) done.1
  effect Event.Arm (Reply.Arm (Ok ArmReply.Armed)) done = arms done
  effect Event.Arm (Reply.Arm (Err ArmRefusal.Device)) done = fails_to_arm done
  effect Event.Arm (Reply.Arm (Err (ArmRefusal.NeedEnergy need has))) done =
      let disarmed : m.mode ≡ Mode.Disarmed = (arms_where m done.unarmed done.unrefused).disarmed in
      shows (search) has (ap (λ (w : World). w.machine) done.is) done.reads (ap reads_gauge disarmed) (grind arith)
  effect Event.Arm (Reply.Arm (Err refusal)) done = nothing_new (search) done.2
  effect Event.Disarm (Reply.Disarm (Ok DisarmReply.AlreadyDisarmed)) done = still (search) done.1.1 (unasked done.0)
  effect Event.Disarm (Reply.Disarm (Ok DisarmReply.Disarming)) done = disarms done.1 (unasked done.0)
  effect Event.Disarm (Reply.Disarm (Err refusal)) done = still (search) done.1.1 (unasked done.0)
  effect Event.SaveBegin (Reply.SaveBegin (Ok begun)) done = begins done.1 (unasked done.0)
  effect Event.SaveBegin (Reply.SaveBegin (Err refusal)) done = still (search) done.1.1 (unasked done.0)
  effect Event.SaveStep (Reply.SaveStep StepReply.NoSave) done = nothing_new (search) done.1
  effect Event.SaveStep (Reply.SaveStep StepReply.Waiting) done = nothing_new (search) done.3
  effect Event.SaveStep (Reply.SaveStep StepReply.Turned) done = runs_low (search) done.2 (ap (λ (w : World). w.machine) done.5) done.3 done.4
  effect Event.SaveStep (Reply.SaveStep (StepReply.Did made)) done = steps made done
  effect Event.SaveStep (Reply.SaveStep (StepReply.Saved generation count)) done = ends generation count done
  effect Event.SaveStep (Reply.SaveStep StepReply.Retry) done = repeats done
  effect Event.SaveStep (Reply.SaveStep StepReply.Fault) done = fails done
  effect Event.Lose (Reply.Lose loss) done = closes done.0 loss done.1
  effect event reply none = absurd none
