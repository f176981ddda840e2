-- A call of a whole module.
use Rattle.std.proofs.Common.{List, [], ap, arith, rules, sym, true, ℕ, ◌++◌, ◌∙◌, ◌≡◌, ◌≤◌}
use Rattle.std.proofs.lemmas.List.{append-nil}
use Rattle.arm_state.specs.Modes.{has_ended}
use Rattle.arm_state.specs.Moves.{mode_after}
use Rattle.arm_state.specs.declared.loss.Loss.{Loss}
use Rattle.arm_state.specs.declared.mode.Mode.{Mode}
use Rattle.arm_state.specs.declared.moves.Move.{Move}
use Rattle.arm_state.specs.declared.moves.Move.TheVariants.{EndSave, FailSave}
use Rattle.channel_port.specs.declared.port.ChannelPort.{Ghosts}
use Rattle.energy_budget.specs.declared.energy.Energy.{Ghosts as GaugeGhosts}
use Rattle.line_memory.specs.declared.Write as line_write
use Rattle.module_core.specs.Stands.{setup_of}
use Rattle.nv_machine.specs.Guard.{IsGuarded}
use Rattle.nv_machine.specs.Rising.{added}
use Rattle.nv_machine.specs.State.{Machine, Setup, World, stored_base, stored_writes}
use Rattle.nv_machine.specs.declared.events.Event.{Event}
use Rattle.nv_machine.specs.declared.events.Reply.{Reply}
use Rattle.nv_machine.proofs.EachEvent.{event_keeps}
use Rattle.nv_machine.proofs.Refusing.{arms_where}
use Rattle.nv_machine.proofs.Effects.{Effect, rests, shows, runs_low, disarms, accepts, begins, arms, fails_to_arm, steps, ends, repeats, fails, closes, effect}
use Rattle.board_hosts.specs.Steps.{StepsTo}
use Rattle.board_hosts.specs.declared.recorded_module.RecordedModule.{RecordedModule}
use Rattle.line_memory.specs.History.{Recorded, recorded}
use Rattle.board_hosts.proofs.Keeping.{begins_within}
use Rattle.board_hosts.proofs.Stored.{stored_grows}
use Rattle.nv_machine.specs.Lives.{LivedUntil}
use Rattle.board_hosts.specs.Lived.{world_for}
use Rattle.board_hosts.proofs.Living.{lived_event, lived_pause}
use Rattle.save_device.specs.declared.device.SaveDevice.{Ghosts as DeviceGhosts}
use Rattle.board_desk.specs.Calling.{AddsNone, Answered, Course, GoesBy, GoesAlong, Paused}

-- a life doesn't come back from its end
after_end : (move : Move) (mode : Mode) → has_ended mode ≡ true → has_ended (mode_after move mode) ≡ true
after_end move mode ended = search rules

ended_stays : (setup : Setup) (event : Event) (reply : Reply) (old new : World) → Effect setup old new event reply → has_ended old.machine.mode ≡ true → has_ended new.machine.mode ≡ true
ended_stays setup event reply old new (rests silent waits is fewer gauge) ended = ap (λ (x : Machine). has_ended x.mode) is ∙ ended
ended_stays setup event reply old new (shows silent reading is reads asks high) ended = ap (λ (x : Machine). has_ended x.mode) is ∙ ended
ended_stays setup event reply old new (runs_low silent reading is reads low) ended = grind arith
ended_stays setup event reply old new (disarms done gauge) ended = grind (arith, done.0)
ended_stays setup event reply old new (accepts write accepted done gauge) ended = ap (λ (x : Machine). has_ended x.mode) done.1.is ∙ ended
ended_stays setup event reply old new (begins done gauge) ended = ap (λ (x : Machine). has_ended x.mode) done.1 ∙ ended
ended_stays setup event reply old new (arms done) ended =
    let disarmed = (arms_where old.machine done.0.unarmed done.0.unrefused).disarmed in grind (arith, disarmed)
ended_stays setup event reply old new (fails_to_arm done) ended = ap (λ (x : Machine). has_ended x.mode) done.2 ∙ ended
ended_stays setup event reply old new (steps made done) ended = ap (λ (x : Machine). has_ended x.mode) done.6.2 ∙ ended
ended_stays setup event reply old new (ends generation count done) ended = ap (λ (x : Machine). has_ended x.mode) done.6.3 ∙ after_end EndSave old.machine.mode ended
ended_stays setup event reply old new (repeats done) ended = ap (λ (x : Machine). has_ended x.mode) done.6.1 ∙ ended
ended_stays setup event reply old new (fails done) ended = ap (λ (x : Machine). has_ended x.mode) done.6.1 ∙ after_end FailSave old.machine.mode ended
ended_stays setup event reply old new (closes order Loss.Closed done) ended = ap (λ (x : World). has_ended x.machine.mode) done.1 ∙ ended
ended_stays setup event reply old new (closes order Loss.Unsaved done) ended = ap (λ (x : World). has_ended x.machine.mode) done.1
ended_stays setup event reply old new (closes order (Loss.Saved generation count) done) ended = ap has_ended done.mode
ended_stays setup event reply old new (closes order Loss.Dark done) ended = ap has_ended done.mode
ended_stays setup event reply old new (closes order Loss.Fault done) ended = ap has_ended done.mode

-- What a call without a write leaves of a life: the writes that it had. The life goes on to where it led, and doesn't come back from
-- its end.
pub record KeepsWritten (setup : Setup) (old new : World) : Type 0 where
  pub opened : new.machine.life.opened ≡ old.machine.life.opened
  pub writes : new.machine.life.writes ≡ old.machine.life.writes
  pub persisted : old.machine.life.persisted ≤ new.machine.life.persisted
  pub ended : has_ended old.machine.mode ≡ true → has_ended new.machine.mode ≡ true
  pub lived : LivedUntil setup old → LivedUntil setup new

pub keeps_written : (setup : Setup) (course : Course) (old new : World) → AddsNone course → GoesAlong course setup old new → IsGuarded old.machine → KeepsWritten setup old new
keeps_written setup (Answered event reply) old new none happens guarded =
    let keeps = event_keeps setup event reply old new happens.step guarded in
    record {
      opened = keeps.opened;
      writes = keeps.writes ∙ ap (λ (ws : List line_write.Write). old.machine.life.writes ++ ws) none ∙ append-nil old.machine.life.writes;
      persisted = keeps.persisted;
      ended = ended_stays setup event reply old new (effect setup old new event reply happens.step);
      lived = λ so. lived_event setup old new so event reply happens;
    }
keeps_written setup Paused old new none paused guarded = record {
  opened = ap (λ (w : World). w.machine.life.opened) paused.is;
  writes = ap (λ (w : World). w.machine.life.writes) paused.is;
  persisted = (let same = ap (λ (w : World). w.machine.life.persisted) paused.is in omega (arith, same));
  ended = λ ended. ap (λ (w : World). has_ended w.machine.mode) paused.is ∙ ended;
  lived = λ so. lived_pause setup old new so paused;
}

module _ {K D E : Type 0} (L : Ghosts K) (M : DeviceGhosts D) (N : GaugeGhosts E) where
  -- an event that a module with its record answered
  pub goes_by_event : (event : Event) (reply : Reply) (old new : RecordedModule K D E L) → added event reply ≡ [] → StepsTo L M N event reply old new
      → new.running.front.terms.cut ≡ old.running.front.terms.cut → new.history ≡ old.history → GoesBy L M N (Answered event reply) old new
  goes_by_event event reply old new none answers uncut same m with =
      let next = answers m with.stands in
      let n : Machine = next.0 in
      let keeps = keeps_written (setup_of L old.running) (Answered event reply) (world_for L M N old m) (world_for L M N new n) none next.2.happens with.stands.guarded in
      let same_cut : n.cut ≡ m.cut = sym next.1.matches.front.cut ∙ uncut ∙ with.stands.matches.front.cut in
      let within = begins_within L M old m with.stands in
      let room : ℕ = old.history.room in
      let grows = stored_grows m n [] room same_cut keeps.opened (keeps.writes ∙ sym (append-nil m.life.writes)) (omega (arith, within.0, within.1)) in
      let stays : recorded (stored_base m) m.cut (stored_writes m ++ []) room ≡ recorded (stored_base m) m.cut (stored_writes m) room =
      ap (λ (ws : List line_write.Write). recorded (stored_base m) m.cut ws room) (append-nil (stored_writes m)) in
      let whole : new.history ≡ recorded (stored_base n) n.cut (stored_writes n) room = same ∙ with.stored ∙ sym stays ∙ sym grows in
      let stored : new.history ≡ recorded (stored_base n) n.cut (stored_writes n) new.history.room =
      whole ∙ ap (λ (r : ℕ). recorded (stored_base n) n.cut (stored_writes n) r) (sym (ap (λ (h : Recorded). h.room) whole)) in
      (n, record { stands = next.1; stored = stored }, next.2.happens)
