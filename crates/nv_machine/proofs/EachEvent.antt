-- What the machine keeps in any event, and what becomes of its life.
use Rattle.nv_machine.proofs.Common.{List, [], ap, arith, false, refl, sym, ℕ, ◌++◌, ◌+◌, ◌∙◌, ◌≡◌, ◌≤◌, None, Some, append-nil, Write, step_after, has_ended, is_armed, is_backed, is_disarming, DrainOrder, Loss, Mode, Guards, IsGuarded, is_broken_off, would_lose_acknowledged, SavesAllWritten, marks, LoseStep, MachineStep, persisted_at_end, read_as, written, added, Machine, RunningSave, Setup, World, all_of, newest_of, told_mark, Event, Reply}
use Rattle.nv_machine.proofs.Refusing.{arms_where, accepted_where, begins_where}
use Rattle.nv_machine.proofs.Effects.{KeepsNewest, Effect, rests, shows, runs_low, disarms, accepts, begins, arms, fails_to_arm, steps, ends, repeats, fails, closes, effect}
use Rattle.nv_machine.proofs.Proceeding.{stepped_goes, torn_goes, failed_goes, failed_ends, newest_stays, dark_goes, fault_goes, after_loss}
use Rattle.nv_machine.proofs.GuardMoves.{guarded_same, guarded_begun, guarded_disarming, guarded_armed, guarded_arm_failed, guarded_unsaved, guarded_written, guarded_did, guarded_failed, guarded_broken, guarded_saved, guarded_finished}

-- a module that has ended runs no save
active : (m : Machine) (save : RunningSave) → Guards m → m.store.saving ≡ Some save → has_ended m.mode ≡ false
active m save guarded runs = grind (arith, guarded.no_save_at_end)

-- a save that ends takes no acknowledged write back, and makes its own persistent
at_end : (m : Machine) (save : RunningSave) → Guards m → m.store.saving ≡ Some save
    → let persisted = persisted_at_end m.mode m.life.persisted save.made.count in (m.life.persisted ≤ persisted) × (save.made.count ≤ persisted)
at_end m save guarded runs = by_mode m.mode refl
  where
    by_mode : (mode : Mode) → m.mode ≡ mode → let persisted = persisted_at_end mode m.life.persisted save.made.count in (m.life.persisted ≤ persisted) × (save.made.count ≤ persisted)
    by_mode Mode.Armed is = let all : m.life.persisted ≡ all_of m = guarded.backed_persisted (ap is_backed is) in omega (arith, (guarded.good_made save runs).prefix.to)
    by_mode Mode.Disarmed is =
        let running : m.lost ≡ None = guarded.mains_last (ap has_ended is) in let calm : would_lose_acknowledged m ≡ false = grind arith in
        omega (arith, (guarded.good_made save runs).holds_all calm)
    by_mode Mode.Closing is = grind (arith, guarded.no_save_at_end)
    by_mode Mode.Saved is = grind (arith, guarded.no_save_at_end)
    by_mode _ is = omega (arith, guarded.persisted_accepted, guarded.disarming_holds_all (ap is_disarming is) save runs)

-- no further write
no_more : (m : Machine) (more : List Write) → more ≡ [] → m.life.writes ≡ m.life.writes ++ more
no_more m more none = rw none (sym (append-nil m.life.writes))

-- The life after an event: with the write that the event adds, no acknowledged write taken back, and all that the reply
-- tells acknowledged. Where nothing could be lacking nothing can, but by arming; and where a loss of mains saves all, no
-- closing save is broken off.
pub record KeepsLife (event : Event) (reply : Reply) (m n : Machine) : Type 0 where
  pub opened : n.life.opened ≡ m.life.opened
  pub writes : n.life.writes ≡ m.life.writes ++ added event reply
  pub persisted : m.life.persisted ≤ n.life.persisted
  pub told : told_mark reply ≤ n.life.persisted
  pub newest : KeepsNewest reply (newest_of m).count (newest_of n).count
  pub calm : marks reply ≡ false → would_lose_acknowledged m ≡ false → would_lose_acknowledged n ≡ false
  pub unbroken : SavesAllWritten m reply → is_broken_off m.lost ≡ false → is_broken_off n.lost ≡ false

module _ (setup : Setup) (old new : World) (guarded : Guards old.machine) where
  abbrev m : Machine
  m = old.machine

  -- with another reading
  read : (reading : ℕ) → Guards (read_as reading m)
  read reading = guarded_same m reading m.waits guarded

  -- a loss of mains, and any event: what the machine keeps
  guarded_loss : (order : DrainOrder) (loss : Loss) → LoseStep order setup loss old new → Guards new.machine
  guarded_loss order Loss.Closed done = rw done.1 guarded
  guarded_loss order Loss.Unsaved done = rw done.1 (guarded_unsaved m done.0 (guarded.mains_last (ap has_ended done.0)) guarded)
  guarded_loss order (Loss.Saved generation count) done =
      rw (after_loss (Loss.Saved generation count) m new.machine Mode.Saved _ done.closes done.mode done.saved) (guarded_saved m new.machine.reading generation count new.machine.waits guarded)
  guarded_loss order Loss.Dark done = rw (after_loss Loss.Dark m new.machine Mode.Closing _ done.closes done.mode refl) (guarded_broken m _ Loss.Dark _ _ guarded refl (dark_goes order setup old new done) done.closes.ended)
  guarded_loss order Loss.Fault done = rw (after_loss Loss.Fault m new.machine Mode.Closing _ done.closes done.mode refl) (guarded_broken m _ Loss.Fault _ _ guarded refl (fault_goes order setup old new done) done.closes.ended)

  guarded_by : (event : Event) (reply : Reply) → Effect setup old new event reply → Guards new.machine
  guarded_by event reply (rests silent waits is fewer gauge) = rw is (guarded_same m m.reading waits guarded)
  guarded_by event reply (shows silent reading is reads asks high) = rw is (read reading)
  guarded_by event reply (runs_low silent reading is reads low) = rw is (guarded_disarming (read_as reading m) (grind arith) (read reading))
  guarded_by event reply (disarms done gauge) = rw done.1 (guarded_disarming m (ap is_armed done.0) guarded)
  guarded_by event reply (accepts write accepted done gauge) = rw done.1.is (guarded_written m write new.machine.waits (accepted_where setup m write.line done.0).0 guarded)
  guarded_by event reply (begins done gauge) = rw done.1 (guarded_begun m (begins_where m done.0).0 guarded)
  guarded_by event reply (arms done) =
      let a = arms_where m done.0.unarmed done.0.unrefused in rw done.2 (guarded_armed (read_as new.machine.reading m) a.idle (guarded.mains_last (ap has_ended a.disarmed)) (read new.machine.reading))
  guarded_by event reply (fails_to_arm done) =
      let a = arms_where m done.0.unarmed done.0.unrefused in
      rw done.2 (guarded_arm_failed (read_as new.machine.reading m) a.idle a.disarmed (guarded.mains_last (ap has_ended a.disarmed)) (read new.machine.reading))
  guarded_by event reply (steps made done) =
      rw done.6.2 (guarded_did (read_as done.2 m) (read done.2) done.0 done.1.runs _ (stepped_goes done.0.made m.store made) (step_after setup.shape.lines done.0.next) done.0.repeats (active m done.0 guarded done.1.runs))
  guarded_by event reply (ends generation count done) = rw done.6.3 (guarded_finished (read_as done.2 m) done.0 (read done.2) done.1.runs (active m done.0 guarded done.1.runs))
  guarded_by event reply (repeats done) =
      rw done.6.1 (guarded_did (read_as done.2 m) (read done.2) done.0 done.1.runs _ (torn_goes done.0.made m.store done.0.next) done.0.next (done.0.repeats + 1) (active m done.0 guarded done.1.runs))
  guarded_by event reply (fails done) =
      let ended = failed_ends done.0.made m.store done.0.next in rw done.6.1 (guarded_failed (read_as done.2 m) (read done.2) done.0 done.1.runs _ (failed_goes done.0.made m.store done.0.next) ended.0 ended.1)
  guarded_by event reply (closes order loss done) = guarded_loss order loss done

  -- a loss of mains, and any event: what becomes of the life
  loss_keeps : (order : DrainOrder) (loss : Loss) → LoseStep order setup loss old new → KeepsLife Event.Lose (Reply.Lose loss) m new.machine
  loss_keeps order Loss.Closed done = rw done.1 (search (arith, no_more))
  loss_keeps order Loss.Unsaved done = rw done.1 (search (arith, no_more))
  loss_keeps order (Loss.Saved generation count) done =
      let all : m.life.persisted ≡ all_of m = guarded.backed_persisted done.closes.backed in
      rw (after_loss (Loss.Saved generation count) m new.machine Mode.Saved _ done.closes done.mode done.saved) (search (arith, no_more, all, done.count_is, done.closes.backed))
  loss_keeps order Loss.Dark done =
      let newest = newest_stays _ m.store _ (dark_goes order setup old new done) in
      rw (after_loss Loss.Dark m new.machine Mode.Closing _ done.closes done.mode refl) (search (arith, no_more, newest, done.closes.backed))
  loss_keeps order Loss.Fault done =
      let newest = newest_stays _ m.store _ (fault_goes order setup old new done) in
      rw (after_loss Loss.Fault m new.machine Mode.Closing _ done.closes done.mode refl) (search (arith, no_more, newest, done.closes.backed))

  kept_by : (event : Event) (reply : Reply) → Effect setup old new event reply → KeepsLife event reply m new.machine
  kept_by event reply (rests silent waits is fewer gauge) = rw is (search (arith, no_more, silent))
  kept_by event reply (shows silent reading is reads asks high) = rw is (search (arith, no_more, silent))
  kept_by event reply (runs_low silent reading is reads low) = rw is (search (arith, no_more, silent))
  kept_by event reply (disarms done gauge) = rw done.1 (search (arith, no_more))
  kept_by event reply (accepts write accepted done gauge) =
      let mark : accepted.mark ≡ (written m.mode m.life write).persisted = done.1.mark ∙ ap (λ (x : Machine). x.life.persisted) done.1.is in rw done.1.is (search (arith, mark, guarded.persisted_accepted))
  kept_by event reply (begins done gauge) = rw done.1 (search (arith, no_more))
  kept_by event reply (arms done) = rw done.2 (search (arith, no_more, guarded.persisted_accepted))
  kept_by event reply (fails_to_arm done) = rw done.2 (search (arith, no_more))
  kept_by event reply (steps made done) =
      let newest = newest_stays done.0.made m.store _ (stepped_goes done.0.made m.store made) in rw done.6.2 (search (arith, no_more, newest))
  kept_by event reply (ends generation count done) =
      let kept = at_end m done.0 guarded done.1.runs in rw done.6.3 (search (arith, no_more, kept, done.6.2))
  kept_by event reply (repeats done) =
      let newest = newest_stays done.0.made m.store _ (torn_goes done.0.made m.store done.0.next) in rw done.6.1 (search (arith, no_more, newest))
  kept_by event reply (fails done) =
      let newest = newest_stays done.0.made m.store _ (failed_goes done.0.made m.store done.0.next) in rw done.6.1 (search (arith, no_more, newest))
  kept_by event reply (closes order loss done) = loss_keeps order loss done

pub guarded_event : (setup : Setup) (event : Event) (reply : Reply) (old new : World) → MachineStep setup event reply old new → IsGuarded old.machine → IsGuarded new.machine
unfolding IsGuarded
guarded_event setup event reply old new done guarded = guarded_by setup old new guarded event reply (effect setup old new event reply done)

pub event_keeps : (setup : Setup) (event : Event) (reply : Reply) (old new : World) → MachineStep setup event reply old new → IsGuarded old.machine → KeepsLife event reply old.machine new.machine
unfolding IsGuarded
event_keeps setup event reply old new done guarded = kept_by setup old new guarded event reply (effect setup old new event reply done)

pub event_adds : (setup : Setup) (event : Event) (reply : Reply) (old new : World) → MachineStep setup event reply old new → IsGuarded old.machine → new.machine.life.writes ≡ old.machine.life.writes ++ added event reply
event_adds setup event reply old new done guarded = (event_keeps setup event reply old new done guarded).writes
