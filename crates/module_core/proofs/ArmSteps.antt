-- Arming: its refusals, and what the device holds then.
use Rattle.std.specs.Prelude.{◌||◌}
use Rattle.arm_state.specs.Refusals.{arm_refusal, energy_refusal_of}
use Rattle.arm_state.specs.declared.refusal.ArmRefusal.{ArmRefusal}
use Rattle.arm_state.specs.declared.refusal.ArmReply.{ArmReply}
use Rattle.arm_state.specs.declared.refusal.SaveState.{SaveState}
use Rattle.nv_machine.proofs.Guarded.{mains_last, newest_alone}
use Rattle.nv_machine.proofs.Refusing.{Arms, arms_where}
use Rattle.nv_machine.proofs.Leaving.{left_marking}
use Rattle.nv_machine.specs.Guard.{is_broken_off, would_lose_acknowledged}
use Rattle.nv_machine.specs.Machine.{ArmStep, MayArm}
use Rattle.nv_machine.specs.Moves.{arm_failed}
use Rattle.nv_machine.specs.Refusals.{need_for}
use Rattle.nv_machine.specs.State.{newest_of, pending_of}
use Rattle.slot_store.specs.Rest.{Candidates, IsAtRestOn, IsAtRestRearmed, only, with_any_arm}
use Rattle.slot_store.specs.Slots.{Full}
use Rattle.arm_state.specs.declared.mode.Mode.TheVariants as modes
use Rattle.arm_state.specs.declared.refusal.ArmRefusal.TheVariants as refusals
use Rattle.nv_machine.specs.declared.events.Event.TheVariants as events
use Rattle.nv_machine.specs.declared.events.Reply.TheVariants as replies
use Rattle.channel_set.specs.Issuing.{IssuesNone}
use Rattle.module_core.specs.Stands.{saved_after}
use Rattle.module_core.proofs.Common.{ℕ, ◌<◌, ◌∙◌, ◌≡◌, ◌≤◌, Assembly, DeviceState, Err, Gauge, GaugeCall, Ghosts, HappensAt, HoldsWhile, IsAmong, IsResting, LeavesOnly, Machine, Matches, Mode, Module, ModuleStands, None, Option, Outcome, ReadsLevel, Result, RunningSave, AreSameSave, SaveRun, Setup, Slot, Some, Store, Waits, World, ap, armed, assembly, false, has_ended, is_armed, is_backed, length, lines_of_module, marks, point_of, rearmed, restored, rules, saves_of, setup_of, subst, sym, true, view_of, weaker, world_of}
use Rattle.module_core.proofs.Applying.{asked}
use Rattle.module_saves.proofs.StoreSteps.{at_rest}

-- such a refusal comes before the arm byte is written
pub unmarked : (mode : Mode) (s : SaveState) (r : ArmRefusal) → arm_refusal mode s ≡ Some r → marks (replies.Arm (Err r)) ≡ false
unmarked mode s r is = search rules

-- a refusal once the gauge was read
pub energy_is : (need has : ℕ) (r : ArmRefusal) → energy_refusal_of need has ≡ Some r → (has < need) × (r ≡ refusals.NeedEnergy need has)
energy_is need has r is = search rules

pub energy_enough : (need has : ℕ) → energy_refusal_of need has ≡ None → need ≤ has
energy_enough need has is = search rules

pub arm_refused : (setup : Setup) (w : World) (r : ArmRefusal) → is_armed w.machine.mode ≡ false → arm_refusal w.machine.mode (saves_of w.machine) ≡ Some r → ArmStep setup (Err r) w w
arm_refused setup w r off is = search rules

-- the store after arming, and after a fault in it
pub rests_armed : (lines : ℕ) (m : Machine) (state : DeviceState) → IsAtRestOn m.store.maybe.slot (rearmed (newest_of m) 0x5A) lines m.store.closed state → IsResting lines (armed m).store state
rests_armed lines m state rest = search rules

pub rests_rearmed : (lines : ℕ) (m : Machine) (state : DeviceState) → IsAtRestRearmed m.store.maybe.slot (newest_of m) lines m.store.closed state → IsResting lines (arm_failed m).store state
rests_rearmed lines m state r = search rules

-- no save runs
pub holds_none : (lines : ℕ) (s : Store) (state : DeviceState) (o : Option RunningSave) (r : Option SaveRun) → o ≡ None → AreSameSave o r → IsResting lines s state → HoldsWhile o r lines s state
holds_none lines s state o r is runs rest = search rules

pub calm_disarmed : (m : Machine) → m.mode ≡ modes.Disarmed → m.lost ≡ None → would_lose_acknowledged m ≡ false
calm_disarmed m disarmed running = ap (λ (mode : Mode). is_backed mode || is_broken_off m.lost) disarmed ∙ ap is_broken_off running

-- the newest image with any arm byte
pub any_arm_in : (m : Machine) (o : Outcome) → IsAmong (with_any_arm m.store.maybe.slot (newest_of m)) o → IsAmong (record m.store.maybe { any_arm = true }) o
any_arm_in m o is = search rules

-- Nothing refuses to arm a module that is this machine.
module _ {K : Type 0} (L : Ghosts K) (old : Module K L) (m : Machine) (h : Matches L old m) (off : is_armed old.front.mode ≡ false) (free : arm_refusal old.front.mode (saves_of m) ≡ None) where
  pub unarmed : is_armed m.mode ≡ false
  unarmed = ap is_armed (sym h.front.mode) ∙ off

  pub unrefused : arm_refusal m.mode (saves_of m) ≡ None
  unrefused = ap (λ (x : Mode). arm_refusal x (saves_of m)) (sym h.front.mode) ∙ free

  arms : Arms m
  arms = arms_where m unarmed unrefused

  pub needs : (need : ℕ) → need ≡ need_for (setup_of L old) (length (view_of L old.channels).waits.writes) → need ≡ need_for (setup_of L old) (pending_of m)
  needs need is = is ∙ ap (λ (w : Waits). need_for (setup_of L old) (length w.writes)) h.carried.waits

  pub may_arm : (device : DeviceState) (before : Gauge) (new : World) (need : ℕ) → need ≡ need_for (setup_of L old) (length (view_of L old.channels).waits.writes) → need ≤ new.machine.reading → ReadsLevel GaugeCall.Sense before new.machine.reading new.gauge
      → MayArm (setup_of L old) (record { machine = m; device = device; gauge = before }) new
  may_arm device before new need is enough reads = record { unarmed = unarmed; unrefused = unrefused; reads = reads; enough = subst (λ (k : ℕ). k ≤ new.machine.reading) (needs need is) enough }

-- The arm byte is written.
module _ {K : Type 0} (L : Ghosts K) (old : Module K L) (device : DeviceState) (m : Machine) (stands : ModuleStands L old device m) (off : is_armed old.front.mode ≡ false) (free : arm_refusal old.front.mode (saves_of m) ≡ None) where
  abbrev lines : ℕ
  lines = lines_of_module L old

  a : Arms m
  a = arms L old m stands.matches off free

  running : has_ended m.mode ≡ false
  running = ap has_ended a.disarmed

  pub alone_there : IsAtRestOn old.front.saves.newest.slot (newest_of m) lines m.store.closed device
  alone_there =
      let rest : IsResting lines m.store device = at_rest lines m.store device m.store.saving old.front.saves.saving stands.holds in
      let alone : m.store.maybe ≡ only m.store.maybe.slot (newest_of m) =
      newest_alone m stands.guarded (record { runs = running; idle = a.idle; settled = a.settled }) in
      let own : rest.image.arm ≡ (newest_of m).arm = rest.newest.own (ap (λ (c : Candidates). c.any_arm) alone) in
      let newest : rest.image ≡ newest_of m = rest.newest.is ∙ ap (rearmed (newest_of m)) own in
      subst (λ (x : Slot). IsAtRestOn x (newest_of m) lines m.store.closed device) (sym stands.matches.front.knows.slot)
      (record {
        size = rest.rest.size;
        full = rest.rest.full ∙ ap Full newest;
        harmless = λ image differs.
            let found : Outcome = restored lines image in
            subst (λ (c : Candidates). IsAmong c found) alone (rest.among found (rest.rest.harmless image differs));
        shut = rest.rest.shut;
      })

  -- arming tells of no save
  same_count : {count : ℕ} (result : Result ArmReply ArmRefusal) → count ≡ old.front.saved → count ≡ saved_after (replies.Arm result) old.front.saved
  same_count result same = same

  pub answers_marked : (result : Result ArmReply ArmRefusal) → marks (replies.Arm result) ≡ true → (before : Gauge) (new : Assembly L) → setup_of L new.it ≡ setup_of L old → IssuesNone L old.channels new.it.channels → new.it.front.saved ≡ old.front.saved → (n : Machine)
      → ArmStep (setup_of L old) result (world_of L (assembly old device before) m) (world_of L new n) → Matches L new.it n → n.store.saving ≡ m.store.saving → IsResting lines n.store new.device
      → LeavesOnly device new.device (λ bytes. IsAmong (with_any_arm old.front.saves.newest.slot (newest_of m)) (restored lines bytes))
      → (n : Machine) × ModuleStands L new.it new.device n × HappensAt L (setup_of L old) events.Arm (replies.Arm result) (point_of L (assembly old device before) m) (point_of L new n)
  answers_marked result marked before new setup issues saved n step matches idle rests moments =
      asked L events.Arm (replies.Arm result) (assembly old device before) new setup m stands n step (same_count result saved) matches
      (holds_none lines n.store new.device n.store.saving new.it.front.saves.saving (idle ∙ a.idle) matches.front.saving rests) tt issues
      (weaker device new.device (λ bytes left guarded.
      left_marking (replies.Arm result) m n marked (calm_disarmed m a.disarmed (mains_last m stands.guarded running)) stands.guarded (restored lines bytes)
      (any_arm_in m (restored lines bytes) (subst (λ (x : Slot). IsAmong (with_any_arm x (newest_of m)) (restored lines bytes)) stands.matches.front.knows.slot left))) moments)
