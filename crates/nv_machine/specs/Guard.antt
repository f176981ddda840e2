-- What is true of each image that a stop may make the newest.
use Rattle.std.specs.Prelude.{◌≡◌, ◌≢◌, ◌⊎◌, ◌||◌, ◌≤◌, Bool, true, false, is_some, Option, Some, None}
use Rattle.std.specs.Option.{ForSome}
use Rattle.save_image.specs.Image.{Image}
use Rattle.arm_state.specs.declared.mode.Mode.TheVariants as modes
use Rattle.arm_state.specs.Modes.{is_armed, is_disarming, is_backed, has_ended}
use Rattle.arm_state.specs.declared.loss.Loss.{Loss}
use Rattle.arm_state.specs.declared.loss.Loss.TheVariants as loss
use Rattle.nv_machine.specs.State.{Machine, start_of_life, all_of, memory_after, newest_of}

-- its memory is the one after a prefix of the accepted writes
pub record IsPrefix (m : Machine) (image : Image) : Type 0 where
  pub from : start_of_life m.life ≤ image.count
  pub to : image.count ≤ all_of m
  pub memory : image.memory ≡ memory_after m image.count

-- the closing save was broken off
abbrev pub is_broken_off : Option Loss → Bool
is_broken_off (Some loss.Dark) = true
is_broken_off (Some loss.Fault) = true
is_broken_off lost = false

-- in the dark, now, acknowledged writes may be lacking: the module is armed, disarming or stranded, or a closing save was
-- broken off
abbrev pub would_lose_acknowledged : Machine → Bool
would_lose_acknowledged m = is_backed m.mode || is_broken_off m.lost

-- Why this image, which isn't complete, may be the newest: darkness now, or an arm call that failed since the last save, or
-- the life began with this very image.
abbrev pub HasCause : Machine → Image → Type 0
HasCause m image = (would_lose_acknowledged m ≡ true) ⊎ (m.store.maybe.any_arm ≡ true) ⊎ (image ≡ m.life.opened)

-- An image that a stop may make the newest: where it is complete it holds each acknowledged write, where it isn't there is
-- a cause, and where nothing may be lacking it holds them all the same.
pub record IsGood (m : Machine) (image : Image) : Type 0 where
  pub prefix : IsPrefix m image
  pub complete : image.arm ≡ 0 → m.life.persisted ≤ image.count
  pub cause : image.arm ≢ 0 → HasCause m image
  pub holds_all : would_lose_acknowledged m ≡ false → m.life.persisted ≤ image.count

-- What the machine keeps: each image that a stop may make the newest is good, and so is the one that a save makes.
pub record Guards (m : Machine) : Type 0 where
  pub good_newest : IsGood m (newest_of m)
  pub good_saved : ForSome m.store.maybe.saved (IsGood m)
  pub good_made : ForSome m.store.saving (λ save. IsGood m save.made)
  -- where an arm call failed, the newest image holds each acknowledged write whatever its arm byte, and arming is refused
  -- until a save has ended
  pub failed_arm_holds_all : m.store.maybe.any_arm ≡ true → m.life.persisted ≤ (newest_of m).count
  pub failed_arm_unsettled : m.store.maybe.any_arm ≡ true → m.store.unsettled ≡ true
  -- the writes that the life was opened with are persistent, and the persistent ones are accepted
  pub opened_persisted : start_of_life m.life ≤ m.life.persisted
  pub persisted_accepted : m.life.persisted ≤ all_of m
  pub backed_persisted : is_backed m.mode ≡ true → m.life.persisted ≡ all_of m
  pub disarming_saves : m.mode ≡ modes.Disarming → is_some m.store.saving ≡ true
  pub disarming_holds_all : is_disarming m.mode ≡ true → ForSome m.store.saving (λ save. save.made.count ≡ all_of m)
  -- while armed each image is armed, and a save that runs while not armed makes one that isn't
  pub armed_newest : is_armed m.mode ≡ true → (newest_of m).arm ≢ 0
  pub armed_saved : is_armed m.mode ≡ true → ForSome m.store.maybe.saved (λ image. image.arm ≢ 0)
  pub armed_made : is_armed m.mode ≡ true → ForSome m.store.saving (λ save. save.made.arm ≢ 0)
  pub no_arm_failed : is_armed m.mode ≡ true → m.store.maybe.any_arm ≡ false
  pub unarmed_made : is_armed m.mode ≡ false → ForSome m.store.saving (λ save. save.made.arm ≡ 0)
  pub no_save_at_end : has_ended m.mode ≡ true → m.store.saving ≡ None
  -- between two saves, where no call failed, only the newest image may be found
  pub only_newest : has_ended m.mode ≡ false → m.store.unsettled ≡ false → m.store.saving ≡ None → m.store.maybe.saved ≡ None
  pub mains_last : has_ended m.mode ≡ false → m.lost ≡ None
  -- no image that a stop may make the newest holds fewer writes than the one known settled, and what that one lacks is stored
  pub newest_saved : ForSome m.store.maybe.saved (λ image. (newest_of m).count ≤ image.count)
  pub newest_made : ForSome m.store.saving (λ save. (newest_of m).count ≤ save.made.count)
  pub opened_cut : start_of_life m.life ≤ m.cut
  pub cut_newest : m.cut ≤ (newest_of m).count

-- each image that a stop may make the newest, and the one that a save makes, holds all writes before the cut
pub record HoldsCut (m : Machine) : Type 0 where
  pub opened : start_of_life m.life ≤ m.cut
  pub newest : m.cut ≤ (newest_of m).count
  pub saved : ForSome m.store.maybe.saved (λ image. m.cut ≤ image.count)
  pub made : ForSome m.store.saving (λ save. m.cut ≤ save.made.count)

-- The same, closed: what other crates know of a guarded machine are the laws in `proofs/Guarded.antt`.
unfoldable pub IsGuarded : Machine → Type 0
IsGuarded m = Guards m
