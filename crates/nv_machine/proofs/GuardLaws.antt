-- What keeps an image good, and what the machine can't come to.
use Rattle.std.proofs.lemmas.Bool.{both_ways}
use Rattle.std.proofs.lemmas.Option.{none-some}
use Rattle.line_memory.proofs.MemoryLaws.{memory_at-all}
use Rattle.nv_machine.proofs.Common.{Bool, arith, false, refl, subst, sym, true, ℕ, ◌≡◌, ◌≢◌, ◌≤◌, None, Option, Some, ForSome, arm_byte, Image, is_disarming, Mode, HasCause, IsGood, Guards, would_lose_acknowledged, Machine, base_of_life, made_of, start_of_life}

-- what holds of none, and of one
pub for_none : {X : Type 0} (o : Option X) (P : X → Type 0) → o ≡ None → ForSome o P
for_none o P is x some = cc

pub for_one : {X : Type 0} (x : X) (P : X → Type 0) → P x → ForSome (Some x) P
for_one x P holds y is = let same : x ≡ y = cc in subst P same holds

-- whatever a field asks for, where it can't come up: a test is false and true, a save runs and none does, a mode is another
pub clash : {A : Type 0} {x y : A} (t : Bool) → t ≡ false → t ≡ true → x ≡ y
clash t off on = cc

pub clash_le : {a b : ℕ} (t : Bool) → t ≡ false → t ≡ true → a ≤ b
clash_le t off on = cc

pub clash_some : {X A : Type 0} {x y : A} (z : X) → Some z ≡ None → x ≡ y
clash_some z is = cc

pub clash_mode : {A : Type 0} {x y : A} (mode : Mode) → is_disarming mode ≡ false → mode ≡ Mode.Disarming → x ≡ y
clash_mode mode off on = grind arith

-- what closes the fields of `Guards` that can't come up, and those of no save and of one
pub ruleset never = (both_ways, none-some, clash, clash_le, clash_some, clash_mode, for_none, for_one)

-- a good image stays good where the life is the same
pub carry : (m n : Machine) → ((image : Image) → HasCause m image → HasCause (record n { life = m.life }) image) → (would_lose_acknowledged n ≡ false → would_lose_acknowledged m ≡ false)
    → (image : Image) → IsGood m image → IsGood (record n { life = m.life }) image
carry m n cause calm image good = search (cause, calm, good.complete, good.cause, good.holds_all)

-- the image of all accepted writes is good
pub made_good : (m n : Machine) (b : Bool) → Guards m → (b ≡ true → HasCause (record n { life = m.life }) (made_of b m)) → IsGood (record n { life = m.life }) (made_of b m)
made_good m n b guarded cause = record {
  prefix = record { from = omega arith; to = omega arith; memory = sym (memory_at-all (base_of_life m.life) (start_of_life m.life) m.life.writes) };
  complete = λ clear. guarded.persisted_accepted;
  cause = λ set. cause (armed_where b set);
  holds_all = λ calm. guarded.persisted_accepted;
}
  where
    armed_where : (b : Bool) → arm_byte b ≢ 0 → b ≡ true
    armed_where true set = refl
    armed_where false set = absurd (set refl)

-- the arm byte of an armed image
pub armed_set : (b : Bool) → b ≡ true → arm_byte b ≢ 0
armed_set true is clear = absurd (omega (arith, clear))
armed_set false is clear = cc
