-- What backs the acknowledged writes: nothing in some modes, a reading while armed, and the energy bound in the others.
use Rattle.slot_store.specs.Steps.{reach_of}
use Rattle.energy_budget.proofs.Rising.{backing_level-le, needed_level-le}
use Rattle.energy_budget.specs.Sums.{save_ticks}
use Rattle.channel_port.specs.Shape.{IsShape}
use Rattle.nv_machine.proofs.Common.{arith, false, length, ℕ, ◌+◌, ◌≡◌, ◌≢◌, ◌≤◌, ForSome, Step, is_armed, is_backed, Mode, backing_level-ticks, need_backs, Gauge, GaugeCall, IsHonestThrough, ReadsLevel, backing_level, Costs, Waits, IsGuarded, IsBacked, ticks_left, armed, need_for, Machine, Setup, pending_of}

-- what is known of a machine and its setup
pub record IsKnown (setup : Setup) (m : Machine) : Type 0 where
  pub shape : IsShape setup.shape
  pub guarded : IsGuarded m
  pub place : ForSome m.store.saving (λ save. reach_of save.next ≤ setup.shape.lines)
  pub going : ForSome m.store.saving (λ save. save.next ≢ Step.Done)

-- a backing of one tick more
pub one_tick : (costs : Costs) (k ticks more : ℕ) → more ≡ ticks + 1 → backing_level costs k more ≡ backing_level costs k ticks + costs.numbers.leak
unfolding backing_level
one_tick costs k ticks more is = rw is (omega arith)

-- an honest reading
pub falls : {kind : GaugeCall} (leak : ℕ) (old : Gauge) (answer : ℕ) (new : Gauge) → ReadsLevel kind old answer new → IsHonestThrough leak old new → (old.level ≤ new.level + leak) × (answer ≡ new.level)
falls leak old answer new reads honest = let kept = reads.breach.0 honest.faultless in omega (arith, kept, honest.bounded)

module _ (setup : Setup) where
  pub not_backed : (m : Machine) (gauge : Gauge) → is_backed m.mode ≡ false → IsBacked setup m gauge
  not_backed m gauge off = grind arith

  pub armed_backs : (m : Machine) (gauge : Gauge) → m.mode ≡ Mode.Armed → need_for setup (pending_of m) ≤ m.reading → m.reading ≤ gauge.level → IsBacked setup m gauge
  armed_backs m gauge armed shown read = record {
    bound = λ on.
        rw armed
        (omega (arith, backing_level-ticks setup.shape.costs (pending_of m) (save_ticks setup.shape.costs) (save_ticks setup.shape.costs + 1) (omega arith), need_backs setup.shape.costs (pending_of m), shown, read));
    shown = λ on. shown;
    read = λ on. read;
  }

  pub bound_backs : (m : Machine) (gauge : Gauge) → is_armed m.mode ≡ false → backing_level setup.shape.costs (pending_of m) (ticks_left setup m) ≤ gauge.level → IsBacked setup m gauge
  bound_backs m gauge off bound = grind arith

  -- where no more writes wait
  pub fewer_backs : (m : Machine) (waits : Waits) (gauge : Gauge) → length waits.writes ≤ pending_of m → IsBacked setup m gauge → IsBacked setup (record m { waits = waits }) gauge
  fewer_backs m waits gauge fewer backed = record {
    bound = λ on. omega (arith, backing_level-le setup.shape.costs (length waits.writes) (pending_of m) (ticks_left setup m) fewer, backed.bound on);
    shown = λ on. omega (arith, needed_level-le setup.shape.costs (length waits.writes) (pending_of m) fewer, backed.shown on);
    read = backed.read;
  }
