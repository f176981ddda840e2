-- The laws of a guarded machine: all that is known of one where `IsGuarded` stays closed.
use Rattle.std.proofs.Common.{rules}
use Rattle.std.proofs.lemmas.Bool.{cases_lt}
use Rattle.slot_store.specs.Rest.{Candidates, only}
use Rattle.nv_machine.specs.Opening.{new_life}
use Rattle.nv_machine.specs.Guard.{HoldsCut, IsGood}
use Rattle.nv_machine.specs.Headline.{MayCut}
use Rattle.nv_machine.specs.SavedImages.{IsUnsaving}
use Rattle.nv_machine.specs.State.{memory_after}
use Rattle.nv_machine.proofs.Common.{Bool, arith, false, true, ℕ, ⊎_elim, ◌∙◌, ◌≡◌, ◌≤◌, ap, refl, None, Option, Some, is_some}
use Rattle.nv_machine.proofs.Common.{Image, Slot, has_ended, is_armed, Mode}
use Rattle.nv_machine.proofs.GuardLaws.{carry}
use Rattle.nv_machine.proofs.Common.{IsGuarded, Machine, RunningSave, all_of, newest_of, start_of_life}

-- it is guarded from the beginning of a life on, and stays so in any event (`guarded_event`)
pub guarded_new : (slot : Slot) (closed : Bool) (image : Image) → IsGuarded (new_life slot closed image)
unfolding IsGuarded
guarded_new slot closed image = search rules

-- it stays so where the stored writes are cut, and it may be cut to where it is
pub guarded_cut : (m : Machine) (cut : ℕ) → MayCut m cut → IsGuarded m → IsGuarded (record m { cut = cut })
unfolding IsGuarded
guarded_cut m cut may guarded =
    let n : Machine = record m { cut = cut } in
    let begins : start_of_life m.life ≤ cut = omega (arith, guarded.opened_cut, may.rises) in
    let most : cut ≤ (newest_of m).count = ⊎_elim may.most (λ stays. omega (arith, guarded.cut_newest, stays)) (cases_lt m.cut cut) in
    let keeps : (image : Image) → IsGood m image → IsGood n image = carry m n (λ i x. x) (λ x. x) in
    search (keeps, begins, most, guarded.good_saved, guarded.good_made)

-- each image that a stop may make the newest holds all writes before the cut, and so does the one that is made
pub cut_below : (m : Machine) → IsGuarded m → HoldsCut m
unfolding IsGuarded
cut_below m guarded = record {
  opened = guarded.opened_cut;
  newest = guarded.cut_newest;
  saved = λ image some. omega (arith, guarded.cut_newest, guarded.newest_saved image some);
  made = λ save some. omega (arith, guarded.cut_newest, guarded.newest_made save some);
}

-- the writes that the life was opened with are persistent, and the persistent ones are accepted
pub opened_persisted : (m : Machine) → IsGuarded m → start_of_life m.life ≤ m.life.persisted
unfolding IsGuarded
opened_persisted m guarded = guarded.opened_persisted

pub persisted_accepted : (m : Machine) → IsGuarded m → m.life.persisted ≤ all_of m
unfolding IsGuarded
persisted_accepted m guarded = guarded.persisted_accepted

-- mains aren't lost before it has ended
pub mains_last : (m : Machine) → IsGuarded m → has_ended m.mode ≡ false → m.lost ≡ None
unfolding IsGuarded
mains_last m guarded = guarded.mains_last

-- a save that runs makes the memory after so many writes as it counts, and while not armed an image that isn't
pub memory_made : (m : Machine) (save : RunningSave) → IsGuarded m → m.store.saving ≡ Some save
    → save.made.memory ≡ memory_after m save.made.count
unfolding IsGuarded
memory_made m save guarded runs = (guarded.good_made save runs).prefix.memory

pub unarmed_made : (m : Machine) (save : RunningSave) → IsGuarded m → m.store.saving ≡ Some save
    → is_armed m.mode ≡ false → save.made.arm ≡ 0
unfolding IsGuarded
unarmed_made m save guarded runs unarmed = guarded.unarmed_made unarmed save runs

-- between two saves, where no call of the device has failed, a stop leaves the newest image alone
alone : (c : Candidates) → c.any_arm ≡ false → c.saved ≡ None → c ≡ only c.slot c.newest
alone c own none =
    ap (λ (b : Bool). record c { any_arm = b }) own
    ∙ ap (λ (s : Option Image). record { slot = c.slot; newest = c.newest; any_arm = false; saved = s }) none

own_arm : (m : Machine) → IsGuarded m → m.store.unsettled ≡ false → (b : Bool) → m.store.maybe.any_arm ≡ b → b ≡ false
unfolding IsGuarded
own_arm m guarded settled true any = let refused = guarded.failed_arm_unsettled any in cc (refused, settled)
own_arm m guarded settled false any = refl

pub newest_alone : (m : Machine) → IsGuarded m → IsUnsaving m → m.store.maybe ≡ only m.store.maybe.slot (newest_of m)
unfolding IsGuarded
newest_alone m guarded clean =
    let own : m.store.maybe.any_arm ≡ false = own_arm m guarded clean.settled m.store.maybe.any_arm refl in
    alone m.store.maybe own (guarded.only_newest clean.runs clean.settled clean.idle)

-- while disarming a save runs
pub disarming_saves : (m : Machine) → IsGuarded m → m.mode ≡ Mode.Disarming → is_some m.store.saving ≡ true
unfolding IsGuarded
disarming_saves m guarded = guarded.disarming_saves
