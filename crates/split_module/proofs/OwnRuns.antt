-- A channel's own steps are events of the machine.
use Rattle.std.proofs.Common.{List, Option, Some, [], ap, arith, false, inl, inr, length, refl, subst, suc, sym, true, zero, ℕ, ◌++◌, ◌∙◌, ◌∷◌, ◌≡◌, ◌≤◌}
use Rattle.std.specs.Prelude.{remove, slice_get, slice_set}
use Rattle.std.proofs.lemmas.Bool.{eq-eqb}
use Rattle.std.proofs.lemmas.List.{set-get_or}
use Rattle.std.proofs.lemmas.List.Edits.{length-remove}
use Rattle.std.proofs.lemmas.List.Elements.{All-append, All-cons, All-nil}
use Rattle.std.proofs.lemmas.Option.{get_or_from_slice_get, slice_get_within}
use Rattle.save_device.proofs.Moments.{started}
use Rattle.slot_store.specs.Outcomes.{restored}
use Rattle.arm_state.specs.Modes.{has_ended}
use Rattle.ddr4_timing.specs.declared.command.Command.{Command}
use Rattle.channel_port.specs.declared.answers.Collected.{Collected}
use Rattle.channel_port.specs.declared.answers.Done.{Done}
use Rattle.channel_port.specs.declared.answers.Served.{Served}
use Rattle.channel_port.specs.declared.waiting.Waiting.{Waiting}
use Rattle.channel_port.specs.Answers.{IsCollected, IsServed}
use Rattle.channel_port.specs.Waits.{Goes, Waits}
use Rattle.channel_set.proofs.Lists.{get-set_same}
use Rattle.channel_set.proofs.Piles.{one-becomes, one-goes, one-stays}
use Rattle.channel_log.specs.Between.{CameOf, Collects, OwnStep, OwnSteps}
use Rattle.channel_log.specs.Log.{IsLogOf, LogNote, Told, log_tells, note_of}
use Rattle.channel_log.specs.declared.entry.LogEntry.{LogEntry}
use Rattle.nv_machine.specs.Guard.{IsGuarded}
use Rattle.nv_machine.specs.Headline.{Happens, RecoversMeanwhile, SavesAllWritten, marks}
use Rattle.nv_machine.specs.Machine.{MachineStep}
use Rattle.nv_machine.specs.State.{Machine, Setup, World, hold_of, pending_of}
use Rattle.nv_machine.specs.declared.events.Event.{Event}
use Rattle.nv_machine.specs.declared.events.Reply.{Reply}
use Rattle.nv_machine.proofs.Backing.{fewer_backs}
use Rattle.nv_machine.proofs.GuardMoves.{guarded_same}
use Rattle.nv_machine.proofs.JoinedRuns.{happens_now, join_runs, rests_here}
use Rattle.nv_machine.proofs.Leaving.{left_after, left_before}
use Rattle.split_module.specs.OwnEvents.{ComesOfOwn, LeavesCandidates, is_own, looked, settled_to}
use Rattle.split_module.specs.Telling.{AreLogsOf, laid_out, waits_told}
use Rattle.split_module.proofs.ToldOf.{told_of_log, waits_noted, waits_of_log}

-- the machine where something else waits
pub guarded_waits : (m : Machine) (waits : Waits) → IsGuarded m → IsGuarded (record m { waits = waits })
unfolding IsGuarded
guarded_waits m waits guarded = guarded_same m m.reading waits guarded

pub set_twice : {X : Type 0} (xs : List X) (i : ℕ) (x y : X) → slice_set (slice_set xs i x) i y ≡ slice_set xs i y
set_twice [] i x y = refl
set_twice (z ∷ xs) zero x y = refl
set_twice (z ∷ xs) (suc i) x y = ap (λ ys. z ∷ ys) (set_twice xs i x y)

-- no more writes wait where one went
fewer_gone : (w : Waiting) (old new : List Waiting) → Goes w old new → length new ≤ length old
fewer_gone w old new (place, stands, is) =
    let one = length-remove old place (slice_get_within old place w stands) in
    let same : length new ≡ length (remove old place) = ap length is in
    omega (arith, one, same)

-- What a channel's step makes of all that waits, laid out.
module _ (each : List Waits) (channel : ℕ) (old new : Waits) (at : slice_get each channel ≡ Some old) where
  abbrev before : Waits
  before = laid_out each

  abbrev after : Waits
  after = laid_out (slice_set each channel new)

  same_writes : new.writes ≡ old.writes → after.writes ≡ before.writes
  same_writes same = one-stays (λ (w : Waits). w.writes) each channel old new at same

  same_reads : new.reads ≡ old.reads → after.reads ≡ before.reads
  same_reads same = one-stays (λ (w : Waits). w.reads) each channel old new at same

  same_given : new.given ≡ old.given → after.given ≡ before.given
  same_given same = one-stays (λ (w : Waits). w.given) each channel old new at same

  served_out : (hold : Option ℕ) (served : Served) → IsServed hold channel (Some served) old new → IsServed hold channel (Some served) before after
  served_out hold (Served.Write number) is = record {
    goes = one-goes _ (λ (w : Waits). w.writes) each channel old new at is.goes;
    unheld = is.unheld;
    reads = same_reads is.reads;
    given = same_given is.given;
  }
  served_out hold (Served.Read ticket) is =
      let (place, stands, becomes) = one-becomes is.read (record is.read { answered = true }) (λ (w : Waits). w.reads) each channel old new at (is.place, is.stands, is.reads) in
      record {
        read = is.read;
        place = place;
        stands = stands;
        named = is.named;
        waited = is.waited;
        here = is.here;
        reads = becomes;
        writes = same_writes is.writes;
        given = same_given is.given;
      }

  collected_out : (c : Collects old new) → IsCollected c.ticket (Collected.Data c.line c.bytes c.at) before after
  collected_out c = (one-goes _ (λ (w : Waits). w.reads) each channel old new at c.is.0, same_writes c.is.1, same_given c.is.2)

  fewer_served : (hold : Option ℕ) (served : Served) → IsServed hold channel (Some served) old new → length after.writes ≤ length before.writes
  fewer_served hold (Served.Write number) is = fewer_gone _ before.writes after.writes (one-goes _ (λ (w : Waits). w.writes) each channel old new at is.goes)
  fewer_served hold (Served.Read ticket) is = let same = ap length (same_writes is.writes) in omega (arith, same)

-- an event by which nothing but what waits changes
module _ (setup : Setup) (world : World) (waits : Waits) where
  abbrev later : World
  later = record world { machine = record world.machine { waits = waits } }

  happens_waits : (event : Event) (reply : Reply) → MachineStep setup event reply world later → marks reply ≡ false → SavesAllWritten world.machine reply → length waits.writes ≤ pending_of world.machine
      → IsGuarded world.machine → LeavesCandidates setup world → Happens setup event reply world later
  happens_waits event reply step unmarked saves fewer guarded left = record {
    step = step;
    meanwhile = started {P = λ bytes. RecoversMeanwhile reply world.machine later.machine (restored setup.shape.lines bytes)} world.device
        (λ bytes may_leave. left_before reply world.machine later.machine guarded (restored setup.shape.lines bytes) (left bytes may_leave) (inr (left bytes may_leave)));
    at_end = λ bytes may_leave. left_after later.machine (guarded_waits world.machine waits guarded) (restored setup.shape.lines bytes) (left bytes may_leave);
    honest = λ honest backed. record { backed = fewer_backs setup world.machine waits world.gauge fewer backed; saves = saves };
  }

-- a command that served this
abbrev command : Served → Done
command served = record { command = record { clock = 0; cmd = Command.PreAll 0 }; served = Some served }

-- worlds in which what waits is laid out
abbrev pub laid_at : World → List Waits → World
laid_at world each = record world { machine = record world.machine { waits = laid_out each } }

module _ (setup : Setup) (channel : ℕ) (told : Told) (world : World) (guarded : IsGuarded world.machine) (left : LeavesCandidates setup world)
    (hold : told.hold ≡ hold_of world.machine.store.saving) (ended : told.ended ≡ has_ended world.machine.mode) where
  -- one event makes the last of the steps
  step_run : (each : List Waits) (old new : Waits) → slice_get each channel ≡ Some old → OwnStep channel told old new → ComesOfOwn setup channel (laid_at world each) (laid_at world (slice_set each channel new))
  step_run each old new at (inl serves) =
      let served = subst (λ h. IsServed h channel (Some serves.served) old new) hold serves.is in
      let fewer = fewer_served each channel old new at (hold_of world.machine.store.saving) serves.served served in
      let now = laid_at world each in
      let next = laid_at world (slice_set each channel new) in
      let event = Event.Work channel in
      let reply = Reply.Work (Some (command serves.served)) in
      let step : MachineStep setup event reply now next = (refl, (sym ended ∙ serves.runs, served_out each channel old new at (hold_of world.machine.store.saving) serves.served served, refl)) in
      record {
        events = event ∷ [];
        replies = reply ∷ [];
        own = All-cons (λ (e : Event). is_own channel e ≡ true) event [] (eq-eqb channel channel refl) (All-nil (λ (e : Event). is_own channel e ≡ true));
        run = (next, happens_now setup event reply now next (happens_waits setup now (laid_out (slice_set each channel new)) event reply step refl tt fewer (guarded_waits world.machine (laid_out each) guarded) left), rests_here next);
        fewer = fewer;
      }
  step_run each old new at (inr collects) =
      let same = ap length (same_writes each channel old new at collects.is.1) in
      let fewer : length (laid_out (slice_set each channel new)).writes ≤ length (laid_out each).writes = omega (arith, same) in
      let now = laid_at world each in
      let next = laid_at world (slice_set each channel new) in
      let event = Event.Collect collects.ticket in
      let reply = Reply.Collect (Collected.Data collects.line collects.bytes collects.at) in
      let step : MachineStep setup event reply now next = (refl, (collected_out each channel old new at collects, refl)) in
      record {
        events = event ∷ [];
        replies = reply ∷ [];
        own = All-cons (λ (e : Event). is_own channel e ≡ true) event [] refl (All-nil (λ (e : Event). is_own channel e ≡ true));
        run = (next, happens_now setup event reply now next (happens_waits setup now (laid_out (slice_set each channel new)) event reply step refl tt fewer (guarded_waits world.machine (laid_out each) guarded) left), rests_here next);
        fewer = fewer;
      }

  join_own : (a b c : World) → ComesOfOwn setup channel a b → ComesOfOwn setup channel b c → ComesOfOwn setup channel a c
  join_own a b c first second =
      let one = first.fewer in
      let other = second.fewer in record {
        events = first.events ++ second.events;
        replies = first.replies ++ second.replies;
        own = All-append (λ (e : Event). is_own channel e ≡ true) first.events second.events first.own second.own;
        run = join_runs setup first.events first.replies second.events second.replies a b c first.run second.run;
        fewer = omega (arith, one, other);
      }

  -- so many steps
  steps_run : (each : List Waits) (old : Waits) → slice_get each channel ≡ Some old → (count : ℕ) (new : Waits) → OwnSteps channel told count old new
      → ComesOfOwn setup channel (laid_at world each) (laid_at world (slice_set each channel new))
  steps_run each old at zero new is =
      let within = slice_get_within each channel old at in
      let kept : slice_set each channel new ≡ each = ap (slice_set each channel) (is ∙ sym (get_or_from_slice_get each channel old old at)) ∙ set-get_or each channel old in
      subst (λ ws. ComesOfOwn setup channel (laid_at world each) (laid_at world ws)) (sym kept)
      (record { events = []; replies = []; own = All-nil (λ (e : Event). is_own channel e ≡ true); run = rests_here (laid_at world each); fewer = omega arith })
  steps_run each old at (suc n) new (mid, steps, last) =
      let within = slice_get_within each channel old at in
      let first = steps_run each old at n mid steps in
      let second = step_run (slice_set each channel mid) mid new (get-set_same each channel mid within) last in
      join_own (laid_at world each) (laid_at world (slice_set each channel mid)) (laid_at world (slice_set each channel new)) first
      (subst (λ ws. ComesOfOwn setup channel (laid_at world (slice_set each channel mid)) (laid_at world ws)) (set_twice each channel mid new) second)

-- what came by own steps of what the log tells
pub came_run : (setup : Setup) (world : World) (logs : List (List LogNote)) (channel : ℕ) (log : List LogNote) (waits : Waits) → AreLogsOf setup world.machine logs → IsLogOf logs channel log → CameOf channel (log_tells log) waits
    → IsGuarded world.machine → LeavesCandidates setup world → ComesOfOwn setup channel world (settled_to (looked channel log waits logs) world)
came_run setup world logs channel log waits are of came guarded left =
    let told = told_of_log setup world.machine logs are channel log of in
    let each = waits_told logs in
    let steps = steps_run setup channel (log_tells log) world guarded left told.hold told.ended each (log_tells log).waits (waits_of_log setup world.machine logs are channel log of) came.count waits came.steps in
    let now : laid_at world each ≡ world = ap (λ (w : Waits). record world { machine = record world.machine { waits = w } }) (sym are.waits) in
    let next : laid_at world (slice_set each channel waits) ≡ settled_to (looked channel log waits logs) world = ap (λ ws. laid_at world ws) (sym (waits_noted logs channel log (note_of LogEntry.Looked waits))) in
    subst (λ w. ComesOfOwn setup channel w (settled_to (looked channel log waits logs) world)) now (subst (ComesOfOwn setup channel (laid_at world each)) next steps)
