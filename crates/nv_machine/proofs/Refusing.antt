-- What isn't so where nothing is refused.
use Rattle.arm_state.specs.Refusals.{arm_refusal}
use Rattle.nv_machine.specs.Refusals.{write_refusal}
use Rattle.nv_machine.proofs.Common.{Bool, arith, false, refl, true, ℕ, ◌≡◌, None, Option, Some, if◌then◌else◌, has_ended, is_armed, is_disarming, save_refusal, Mode, lacks_energy, saves_of, Machine, Setup}

-- what a chain of refusals says where it refuses nothing
pub unless : {X : Type 0} (b : Bool) (x : X) (rest : Option X) → (if b then Some x else rest) ≡ None → b ≡ false
unless true x rest is = cc
unless false x rest is = refl

pub rest_of : {X : Type 0} (b : Bool) (x : X) (rest : Option X) → (if b then Some x else rest) ≡ None → rest ≡ None
rest_of true x rest is = cc
rest_of false x rest is = is

-- what arming asks for
pub record Arms (m : Machine) : Type 0 where
  pub disarmed : m.mode ≡ Mode.Disarmed
  pub idle : m.store.saving ≡ None
  pub settled : m.store.unsettled ≡ false

pub arms_where : (m : Machine) → is_armed m.mode ≡ false → arm_refusal m.mode (saves_of m) ≡ None → Arms m
arms_where m off free = grind arith

-- a write that isn't refused
pub accepted_where : (setup : Setup) (m : Machine) (line : ℕ) → write_refusal setup m line ≡ None → (is_disarming m.mode ≡ false) × (lacks_energy setup m ≡ false)
accepted_where setup m line free = grind arith

-- a save that may begin
pub begins_where : (m : Machine) → save_refusal m.mode (saves_of m) ≡ None → (has_ended m.mode ≡ false) × (m.store.saving ≡ None)
begins_where m free = grind arith
