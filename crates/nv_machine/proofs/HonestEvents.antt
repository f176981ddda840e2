-- What an honest gauge is enough for in any event.
use Rattle.std.proofs.lemmas.List.Edits.{length-insert}
use Rattle.save_device.specs.Calls.{MakesCalls, called}
use Rattle.save_device.specs.Device.{faults_of}
use Rattle.save_device.specs.declared.calls.CallKind.{CallKind}
use Rattle.slot_store.proofs.StepsLeft.{no_steps_left, steps_left-after}
use Rattle.slot_store.specs.Steps.{steps_left}
use Rattle.std.proofs.lemmas.List.Sums.{count_by-le-length}
use Rattle.channel_port.specs.Waits.{is_write_up_to, writes_up_to}
use Rattle.energy_budget.specs.Sums.{save_ticks}
use Rattle.std.specs.Prelude.{nat_lt}
use Rattle.std.proofs.Common.{◌-◌}
use Rattle.nv_machine.specs.Moves.{may_repeat, repeated, torn}
use Rattle.nv_machine.specs.Headline.{ticks_until_saved}
use Rattle.nv_machine.proofs.Common.{Bool, [], ap, arith, false, length, refl, sym, true, ℕ, ◌+◌, ◌<◌, ◌∙◌, ◌∷◌, ◌≡◌, ◌≢◌, ◌≤◌, None, Ok, Some, is_some, length-append, Write, faults_more, DeviceState, step_after, Step, is_armed, is_backed, is_disarming, reads_gauge, mode_after, save_refusal, Mode, Move, backing_level-ticks, need_backs, Gauge, GaugeCall, IsHonestThrough, ReadsLevel, backing_level, IsBacked, IsHonest, SavesAllWritten, StaysBacked, MachineStep, WriteStep, advanced, armed, begun, disarming, finished, read_as, step_failed, stepped, written, is_low, lacks_energy, need_for, saves_of, Machine, RunningSave, Setup, Store, World, pending_of, Accepted, Event, Reply}
use Rattle.nv_machine.proofs.ModeLaws.{is_armed_mode}
use Rattle.nv_machine.proofs.Guarded.{disarming_saves}
use Rattle.nv_machine.proofs.Refusing.{arms_where, accepted_where, begins_where}
use Rattle.nv_machine.proofs.Effects.{Effect, rests, shows, runs_low, disarms, accepts, begins, arms, fails_to_arm, steps, ends, repeats, fails, closes, effect}
use Rattle.nv_machine.proofs.Backing.{IsKnown, one_tick, falls, not_backed, armed_backs, bound_backs, fewer_backs}
use Rattle.nv_machine.proofs.HonestLosses.{backs_lose}

-- a device that was called isn't as it was
called_differs : (kind : CallKind) (good : Bool) (old new : DeviceState) → MakesCalls (kind ∷ []) good old.calls new.calls → new ≡ old → ⊥
called_differs kind true old new made same = let calls = ap (λ (d : DeviceState). length d.calls) same in omega (arith, calls, ap length made, length-append old.calls (called kind true ∷ []))
called_differs kind false old new made same = omega (arith, ap faults_of same, faults_more (kind ∷ []) old.calls new.calls made)

module _ (setup : Setup) (old new : World) (known : IsKnown setup old.machine) (backed : IsBacked setup old.machine old.gauge) where
  abbrev m : Machine
  m = old.machine

  -- what is enough while so many ticks are to come
  abbrev level_for : ℕ → ℕ
  level_for ticks = backing_level setup.shape.costs (pending_of m) ticks

  -- the disarming is begun
  disarming_backs : (reading : ℕ) (gauge : Gauge) → level_for (save_ticks setup.shape.costs) ≤ gauge.level → IsBacked setup (disarming (read_as reading m)) gauge
  disarming_backs reading gauge enough =
      let ticks : ℕ = steps_left setup.shape.lines Step.Close + (setup.shape.costs.retries - 0) in
      let first : ticks ≤ save_ticks setup.shape.costs = omega (arith, known.shape.pages) in
      bound_backs setup _ gauge refl (omega (arith, backing_level-ticks setup.shape.costs (pending_of m) ticks (save_ticks setup.shape.costs) first, enough))

  -- a write is accepted
  accepted_backs : (write : Write) (accepted : Accepted) → WriteStep setup write (Ok accepted) m new.machine → IsBacked setup new.machine old.gauge
  accepted_backs write accepted done = rw done.1.is (by_kind (is_armed m.mode) refl)
    where
      by_kind : (b : Bool) → is_armed m.mode ≡ b → IsBacked setup (record m { life = written m.mode m.life write; waits = new.machine.waits }) old.gauge
      by_kind true on =
          let energy : lacks_energy setup m ≡ false = (accepted_where setup m write.line done.0).1 in let need : need_for setup (pending_of m + 1) ≤ m.reading = grind arith in
          let channel = setup.shape.channel_of write.line in let more : pending_of new.machine ≡ pending_of m + 1 = ap length done.1.puts.joins ∙ length-insert m.waits.writes (writes_up_to channel m.waits.writes) _ (count_by-le-length (is_write_up_to channel) m.waits.writes) in
          armed_backs setup _ old.gauge (is_armed_mode m.mode on) (rw more need) (backed.read on)
      by_kind false off = let calm : is_disarming m.mode ≡ false = (accepted_where setup m write.line done.0).0 in not_backed setup _ old.gauge (grind arith)

  -- a save is begun
  begun_backs : save_refusal m.mode (saves_of m) ≡ None → IsBacked setup (begun m) old.gauge
  begun_backs free = record { bound = by_mode m.mode refl; shown = backed.shown; read = backed.read }
    where
      by_mode : (mode : Mode) → m.mode ≡ mode → is_backed mode ≡ true → level_for (ticks_until_saved setup mode (begun m).store.saving) ≤ old.gauge.level
      by_mode Mode.Disarming is on = let idle : m.store.saving ≡ None = (begins_where m free).1 in let runs : is_some m.store.saving ≡ true = disarming_saves m known.guarded is in cc
      by_mode mode is on = rw is at (backed.bound (ap is_backed is ∙ on))

  -- A reading was taken.
  module _ {kind : GaugeCall} (reading : ℕ) (reads : ReadsLevel kind old.gauge reading new.gauge) (honest : IsHonestThrough setup.shape.costs.numbers.leak old.gauge new.gauge) where
    fell : (old.gauge.level ≤ new.gauge.level + setup.shape.costs.numbers.leak) × (reading ≡ new.gauge.level)
    fell = falls setup.shape.costs.numbers.leak old.gauge reading new.gauge reads honest

    low_backs : is_low setup (read_as reading m) ≡ true → IsBacked setup (disarming (read_as reading m)) new.gauge
    low_backs low =
        let on : is_armed m.mode ≡ true = grind arith in
        disarming_backs reading new.gauge
        (omega (arith, need_backs setup.shape.costs (pending_of m), one_tick setup.shape.costs (pending_of m) (save_ticks setup.shape.costs) (save_ticks setup.shape.costs + 1) (omega arith), fell, backed.shown on, backed.read on))

    -- It isn't too low.
    module _ (high : is_low setup (read_as reading m) ≡ false) where
      high_backs : (n : Machine) → m.mode ≡ Mode.Armed → n.mode ≡ Mode.Armed → n.reading ≡ reading → n.waits ≡ m.waits → IsBacked setup n new.gauge
      high_backs n is still told waits = let need : need_for setup (pending_of m) ≤ reading = grind arith in armed_backs setup n new.gauge still (rw (waits, told) need) (omega (arith, fell))

      shown_backs : reads_gauge m.mode ≡ true → IsBacked setup (read_as reading m) new.gauge
      shown_backs asks = by_mode m.mode refl
        where
          by_mode : (mode : Mode) → m.mode ≡ mode → IsBacked setup (read_as reading m) new.gauge
          by_mode Mode.Armed is = high_backs _ is is refl refl
          by_mode _ is = not_backed setup _ new.gauge (grind arith)

      -- A save made a step, which leaves fewer ticks.
      module _ (save : RunningSave) (runs : m.store.saving ≡ Some save) (spared : m.mode ≡ Mode.Stranded → ⊥) where
        -- the steps that are left, and those that may be made again
        abbrev steps_behind : ℕ
        steps_behind = steps_left setup.shape.lines save.next

        abbrev again : ℕ
        again = setup.shape.costs.retries - save.repeats

        abbrev left : ℕ
        left = steps_behind + again

        some : 0 < steps_behind
        some = let going : steps_behind ≢ 0 = λ none. known.going save runs (no_steps_left setup.shape.lines save.next (known.place save runs) none) in omega (arith, going)

        -- while disarming the bound has one tick more than after the step
        more_ticks : m.mode ≡ Mode.Disarming → level_for left ≤ old.gauge.level
        more_ticks is = rw (is, runs) at (backed.bound (ap is_backed is))

        stepped_backs : (s : Store) → IsBacked setup (record (read_as reading m) { store = advanced setup.shape.lines save s }) new.gauge
        stepped_backs s = by_mode m.mode refl
          where
            by_mode : (mode : Mode) → m.mode ≡ mode → IsBacked setup (record (read_as reading m) { store = advanced setup.shape.lines save s }) new.gauge
            by_mode Mode.Armed is = high_backs _ is is refl refl
            by_mode Mode.Disarming is =
                let later : ℕ = steps_left setup.shape.lines (step_after setup.shape.lines save.next) in
                let one : later + 1 ≡ steps_behind = steps_left-after setup.shape.lines save.next (record { some = known.shape.some; most = known.shape.most; whole = known.shape.whole }) (known.place save runs) some in
                let fewer : ℕ = later + again in let next : fewer + 1 ≡ left = omega (arith, one) in
                bound_backs setup _ new.gauge (ap is_armed is) (rw is (omega (arith, more_ticks is, fell, one_tick setup.shape.costs (pending_of m) fewer left (sym next))))
            by_mode Mode.Stranded is = absurd (spared is)
            by_mode _ is = not_backed setup _ new.gauge (ap is_backed is)

        -- it is to be made again, which leaves fewer too
        repeated_backs : (s : Store) → may_repeat setup m.mode save ≡ true → IsBacked setup (record (read_as reading m) { store = repeated save s }) new.gauge
        repeated_backs s may = by_mode m.mode refl
          where
            by_mode : (mode : Mode) → m.mode ≡ mode → IsBacked setup (record (read_as reading m) { store = repeated save s }) new.gauge
            by_mode Mode.Armed is = high_backs _ is is refl refl
            by_mode Mode.Disarming is =
                let below : save.repeats < setup.shape.costs.retries = within (ap (λ (mode : Mode). may_repeat setup mode save) (sym is) ∙ may) in
                let fewer : ℕ = steps_behind + (setup.shape.costs.retries - (save.repeats + 1)) in let next : fewer + 1 ≡ left = omega (arith, below) in
                bound_backs setup _ new.gauge (ap is_armed is) (rw is (omega (arith, more_ticks is, fell, one_tick setup.shape.costs (pending_of m) fewer left (sym next))))
              where
                within : nat_lt save.repeats setup.shape.costs.retries ≡ true → save.repeats < setup.shape.costs.retries
                within is = grind arith
            by_mode Mode.Stranded is = absurd (spared is)
            by_mode _ is = not_backed setup _ new.gauge (ap is_backed is)

        failed_backs : (s : Store) → IsBacked setup (record (read_as reading m) { mode = mode_after Move.FailSave m.mode; store = s }) new.gauge
        failed_backs s = by_mode m.mode refl
          where
            by_mode : (mode : Mode) → m.mode ≡ mode → IsBacked setup (record (read_as reading m) { mode = mode_after Move.FailSave m.mode; store = s }) new.gauge
            by_mode Mode.Armed is = high_backs _ is (ap (mode_after Move.FailSave) is) refl refl
            by_mode Mode.Disarming is =
                bound_backs setup _ new.gauge (grind arith) (rw is (omega (arith, more_ticks is, fell, one_tick setup.shape.costs (pending_of m) 0 1 refl, backing_level-ticks setup.shape.costs (pending_of m) 1 left (omega (arith, some)))))
            by_mode Mode.Stranded is = absurd (spared is)
            by_mode _ is = not_backed setup _ new.gauge (grind arith)

      ended_backs : (save : RunningSave) → IsBacked setup (finished save (read_as reading m)) new.gauge
      ended_backs save = by_mode m.mode refl
        where
          by_mode : (mode : Mode) → m.mode ≡ mode → IsBacked setup (finished save (read_as reading m)) new.gauge
          by_mode Mode.Armed is = high_backs _ is (ap (mode_after Move.EndSave) is) refl refl
          by_mode _ is = not_backed setup _ new.gauge (grind arith)

  backs : (event : Event) (reply : Reply) → Effect setup old new event reply → IsHonest setup old reply new → IsBacked setup new.machine new.gauge
  backs event reply (rests silent waits is fewer gauge) honest = rw (is, gauge) (fewer_backs setup m waits old.gauge fewer backed)
  backs event reply (shows silent reading is reads asks high) honest = rw is (shown_backs reading reads honest.gauge high asks)
  backs event reply (runs_low silent reading is reads low) honest = rw is (low_backs reading reads honest.gauge low)
  backs event reply (disarms done gauge) honest = rw (done.1, gauge) (disarming_backs m.reading old.gauge (rw done.0 at (backed.bound (ap is_backed done.0))))
  backs event reply (accepts write accepted done gauge) honest = rw gauge (accepted_backs write accepted done)
  backs event reply (begins done gauge) honest = rw (done.1, gauge) (begun_backs done.0)
  backs event reply (arms done) honest =
      rw done.2 (armed_backs setup (armed (read_as new.machine.reading m)) new.gauge refl done.0.enough (omega (arith, fell new.machine.reading done.0.reads honest.gauge)))
  backs event reply (fails_to_arm done) honest = rw done.2 (not_backed setup _ new.gauge (ap is_backed (arms_where m done.0.unarmed done.0.unrefused).disarmed))
  backs event reply (steps made done) honest =
      rw done.6.2 (stepped_backs done.2 done.3 honest.gauge done.4 done.0 done.1.runs (λ is. called_differs _ true old.device new.device done.5 (rw is at honest.spared)) (stepped m.store done.0.made made))
  backs event reply (ends generation count done) honest = rw done.6.3 (ended_backs done.2 done.3 honest.gauge done.4 done.0)
  backs event reply (repeats done) honest =
      rw done.6.1
      (repeated_backs done.2 done.3 honest.gauge done.4 done.0 done.1.runs (λ is. called_differs _ false old.device new.device done.5 (rw is at honest.spared)) (torn m.store done.0.made done.0.next) done.6.0)
  backs event reply (fails done) honest =
      rw done.6.1 (failed_backs done.2 done.3 honest.gauge done.4 done.0 done.1.runs (λ is. called_differs _ false old.device new.device done.5 (rw is at honest.spared)) (step_failed m.store done.0.made done.0.next))
  backs event reply (closes order loss done) honest = (backs_lose setup old new known backed order loss done honest).backed

  saves : (event : Event) (reply : Reply) → Effect setup old new event reply → IsHonest setup old reply new → SavesAllWritten m reply
  saves event reply (rests silent waits is fewer gauge) honest = silent.saves m
  saves event reply (shows silent reading is reads asks high) honest = silent.saves m
  saves event reply (runs_low silent reading is reads low) honest = silent.saves m
  saves event reply (closes order loss done) honest = (backs_lose setup old new known backed order loss done honest).saves
  saves event reply _ honest = tt

pub honest_event : (setup : Setup) (event : Event) (reply : Reply) (old new : World) → MachineStep setup event reply old new → IsKnown setup old.machine → IsHonest setup old reply new → IsBacked setup old.machine old.gauge
    → StaysBacked setup old reply new
honest_event setup event reply old new done known honest backed =
    let by = effect setup old new event reply done in record { backed = backs setup old new known backed event reply by honest; saves = saves setup old new known backed event reply by honest }
