-- A restore after a save that is done, and after a stop at any time.
use Rattle.std.proofs.Common.{◌≡◌, ◌≢◌, ◌∙◌, ℕ, ◌≤◌, List, false, inl, inr, refl, sym, ap, subst, arith, Option, Some, None}
use Rattle.std.specs.Prelude.{MatchOption}
use Rattle.std.proofs.Math.Logic.{∥∥₁_map, ∥∥₁_elim}
use Rattle.std.proofs.lemmas.Grind.{merely}
use Rattle.nv_session.proofs.Common.{Assembly, DeviceState, FindsPrefix, FindsPrefixOf, FindsSaved, Ghosts, GoesBackTo, StopsWithin}
use Rattle.nv_session.proofs.Common.{HasSaved, Head, IsLeftBy, IsLiving, IsSettled, IsShapeFor, KeepsPrefixOf}
use Rattle.nv_session.proofs.Common.{LeavesOnly, Machine, MayLeave, Module, ModuleStands, Outcome, Profile, Revives}
use Rattle.nv_session.proofs.Common.{RunsWith, SessionAt, Setup, TellsImage, TellsPrefix, assembly, lines_of}
use Rattle.nv_session.proofs.Common.{lines_of_module, memory_after, newest_of, present, restored, setup_of}
use Rattle.nv_session.proofs.Common.{verdict_of}
use Rattle.save_device.proofs.Moments.{last_within}
use Rattle.save_device.proofs.Rows.{same_rows}
use Rattle.save_image.specs.Image.{Image}
use Rattle.slot_store.specs.declared.slots.Slot.{Slot}
use Rattle.slot_store.specs.Outcomes as outcome
use Rattle.slot_store.specs.Told.{Refuses, IsFailure}
use Rattle.slot_store.specs.declared.restoring.RestoreError.{RestoreError}
use Rattle.slot_store.specs.declared.restoring.RestoreError.TheVariants as errors
use Rattle.slot_store.specs.Rest.{Candidates, IsAmong, only, rearmed}
use Rattle.arm_state.specs.Modes.{is_armed}
use Rattle.nv_machine.specs.Guard.{IsPrefix, HasCause}
use Rattle.nv_machine.specs.Headline.{RecoversAfterwards}
use Rattle.nv_machine.proofs.SurvivedLives.{clear_where}
use Rattle.module_core.specs.ModuleLives.{LifeSoFar}
use Rattle.module_saves.proofs.StoreSteps.{stop_now}
use Rattle.nv_session.proofs.Coming.{left_by_life}

among_only : (slot : Slot) (image : Image) (found : Outcome) → IsAmong (only slot image) found → found ≡ outcome.Found slot image
among_only slot image found (inl r) = r.found ∙ ap (λ (arm : ℕ). outcome.Found slot (rearmed image arm)) (r.own refl)
among_only slot image found (inr saved) = absurd saved

-- the image that was found, or this one
abbrev image_in : Image → Outcome → Image
image_in image (outcome.Found slot found) = found
image_in image outcome.WrongSize = image
image_in image outcome.NoImage = image
image_in image (outcome.Damaged slot) = image

-- what is told of the image that a stop leaves
tells_prefix : (m : Machine) (found : Head) (image : Image) (what : Outcome) (slot : Slot)
    → TellsImage found image → what ≡ outcome.Found slot image → RecoversAfterwards m what → TellsPrefix m found image
tells_prefix m found image what slot tells is left =
    let r = left.recovers in let count = tells.count_is in
    let same : r.image ≡ image = ap (image_in image) (sym r.found ∙ is) in
    record {
      tells = tells;
      prefix = subst (λ (i : Image). IsPrefix m i) same r.prefix;
      complete = λ told.
          omega (arith, count, subst (λ (i : Image). i.arm ≡ 0 → m.life.persisted ≤ i.count) same r.complete (clear_where image.arm image.count (sym tells.verdict_is ∙ told)));
      holds_all = λ calm. omega (arith, count, subst (λ (i : Image). m.life.persisted ≤ i.count) same (r.holds_all calm));
      cause = λ other.
          subst (λ (i : Image). i.arm ≢ 0 → HasCause m i) same r.cause (λ clear. other (tells.verdict_is ∙ ap (λ (a : ℕ). verdict_of a image.count) clear));
    }

-- a stop of a settled device leaves its bytes
settled_bytes : (device : DeviceState) (bytes : List ℕ) → IsSettled device → MayLeave (present device) bytes → bytes ≡ device.bytes
settled_bytes device bytes settled left = same_rows device.bytes bytes (record { size = left.size; outside = λ place here. left.outside place (settled place) })

-- a stop behind calls at which one leaves but the bytes of a settled device leaves these again
pub left_again : (stopped new : DeviceState) → IsSettled stopped → LeavesOnly stopped new (MayLeave (present stopped)) → new.bytes ≡ stopped.bytes
    → StopsWithin (λ bytes. bytes ≡ new.bytes) (present new)
left_again stopped new settled within same bytes left = settled_bytes stopped bytes settled (last_within stopped new within bytes left) ∙ sym same

-- no image was found
abbrev IsNotFound : Outcome → Type 0
IsNotFound (outcome.Found slot image) = ⊥
IsNotFound outcome.WrongSize = Unit {0}
IsNotFound outcome.NoImage = Unit {0}
IsNotFound (outcome.Damaged slot) = Unit {0}

-- where some image was found only a failure refuses
only_fails : (error : RestoreError) (what : Outcome) → ∥ ((slot : Slot) × (image : Image) × (what ≡ outcome.Found slot image)) ∥₁ → Refuses error what → IsFailure error
only_fails errors.Device what found refuses = tt
only_fails errors.Memory what found refuses = tt
only_fails errors.NoImage what found refuses = ∥∥₁_elim found (λ x y. absurd x) (λ f. subst IsNotFound (sym refuses ∙ f.2) tt)
only_fails errors.WrongSize what found refuses = ∥∥₁_elim found (λ x y. absurd x) (λ f. subst IsNotFound (sym refuses ∙ f.2) tt)
only_fails (errors.Damaged slot) what found refuses = ∥∥₁_elim found (λ x y. absurd x) (λ f. subst IsNotFound (sym refuses ∙ f.2) tt)

module _ {K : Type 0} (L : Ghosts K) where
  -- what a stop leaves of a save that is done
  saved_left : (it : Assembly L) (m : Machine) (generation count : ℕ) (bytes : List ℕ) → ModuleStands L it.it it.device m → HasSaved generation count m
      → MayLeave (present it.device) bytes → restored (lines_of_module L it.it) bytes ≡ outcome.Found m.store.maybe.slot (newest_of m)
  saved_left it m generation count bytes stands saved left =
      let lines : ℕ = lines_of_module L it.it in
      among_only m.store.maybe.slot (newest_of m) (restored lines bytes)
      (subst (λ (c : Candidates). IsAmong c (restored lines bytes)) saved.alone (stop_now lines m.store it.it.front.saves.saving it.device stands.holds bytes left))

  pub save_restored : (old new : Assembly L) (m : Machine) (generation count : ℕ) (bytes : List ℕ) (found : Head)
      → ModuleStands L old.it old.device m → HasSaved generation count m → is_armed m.mode ≡ false → MayLeave (present old.device) bytes
      → Revives L (restored (lines_of_module L old.it) bytes) found new.it new.device → FindsSaved L generation count (memory_after m count) found new.it new.device
  save_restored old new m generation count bytes found stands saved unarmed left revives =
      let same : revives.image ≡ newest_of m = ap (image_in (newest_of m)) (sym revives.finds ∙ saved_left old m generation count bytes stands saved left) in
      record {
        generation_is = revives.tells.generation_is ∙ ap (λ (i : Image). i.generation) same ∙ saved.generation_is;
        count_is = revives.tells.count_is ∙ ap (λ (i : Image). i.count) same ∙ saved.count_is;
        complete = revives.tells.verdict_is ∙ ap (λ (n : ℕ). verdict_of n revives.image.count) (ap (λ (i : Image). i.arm) same ∙ saved.complete unarmed);
        image = revives.image;
        stands = revives.stands;
        memory_is = ap (λ (i : Image). i.memory) same ∙ saved.memory;
      }

  finds_prefix : (it : Module K L) (m : Machine) (lines : ℕ) (bytes : List ℕ) (found : Head) (device : DeviceState) → RecoversAfterwards m (restored lines bytes)
      → Revives L (restored lines bytes) found it device → FindsPrefix L m found it device
  finds_prefix it m lines bytes found device left revives = record {
    image = revives.image;
    stands = revives.stands;
    tells = tells_prefix m found revives.image (restored lines bytes) found.newest.slot revives.tells revives.finds left;
  }

  pub stop_restored : (old new : Assembly L) (m : Machine) (bytes : List ℕ) (found : Head) → ModuleStands L old.it old.device m → MayLeave (present old.device) bytes
      → Revives L (restored (lines_of_module L old.it) bytes) found new.it new.device → FindsPrefix L m found new.it new.device
  stop_restored old new m bytes found stands left revives = finds_prefix new.it m (lines_of_module L old.it) bytes found new.device (left_by_life L old m stands bytes left) revives

  -- a stop of a session leaves what one does after each machine that it goes back to
  life_left : (profile : Profile) (old : SessionAt L) (m : Machine) → IsLiving L profile old → GoesBackTo L (lines_of profile.checked.geometry) old m → IsLeftBy (lines_of profile.checked.geometry) m old.device
  life_left profile old m living is = of_life old.life refl is
    where
      lines : ℕ
      lines = lines_of profile.checked.geometry

      of_life : (life : Option (Module K L)) → old.life ≡ life → MatchOption life (IsLeftBy lines m old.device) (λ it. ModuleStands L it old.device m) → IsLeftBy lines m old.device
      of_life (Some it) runs stands =
          let fits : IsShapeFor profile (setup_of L it).shape = living.fits it runs in
          subst (λ (n : ℕ). IsLeftBy n m old.device) fits.lines (left_by_life L (assembly it old.device old.gauge) m stands)
      of_life None runs left_by = left_by

  -- a session's restore: its life before fitted the profile, and the life that it began is of this setup
  pub session_finds : (profile : Profile) (setup : Setup) (old new : SessionAt L) (bytes : List ℕ) (found : Head)
      → IsLiving L profile old → MayLeave (present old.device) bytes
      → RunsWith L setup (λ it. Revives L (restored (lines_of profile.checked.geometry) bytes) found it new.device) new.life
      → FindsPrefixOf L (lines_of profile.checked.geometry) setup old found new
  session_finds profile setup old new bytes found living left runs m is = record {
    it = runs.it;
    runs = runs.runs;
    over = runs.over;
    holds = finds_prefix runs.it m (lines_of profile.checked.geometry) bytes found new.device (life_left profile old m living is bytes left) runs.holds;
  }

  -- refused, it settled no more than the stop had
  pub session_keeps : (profile : Profile) (old new : SessionAt L) (stopped : DeviceState) (error : RestoreError) → IsLiving L profile old
      → MayLeave (present old.device) stopped.bytes → IsSettled stopped → LeavesOnly stopped new.device (MayLeave (present stopped))
      → Refuses error (restored (lines_of profile.checked.geometry) stopped.bytes) → KeepsPrefixOf L (lines_of profile.checked.geometry) old error new
  session_keeps profile old new stopped error living left settled within refuses =
      let lines : ℕ = lines_of profile.checked.geometry in
      record {
        leaves = λ m is bytes again.
            subst (λ (bs : List ℕ). RecoversAfterwards m (restored lines bs)) (sym (settled_bytes stopped bytes settled (last_within stopped new.device within bytes again)))
            (life_left profile old m living is stopped.bytes left);
        fails = λ m is.
            let after : RecoversAfterwards m (restored lines stopped.bytes) = life_left profile old m living is stopped.bytes left in
            only_fails error (restored lines stopped.bytes) (merely (after.recovers.slot, after.recovers.image, after.recovers.found)) refuses;
      }

  -- where a life ran its stop left an image
  pub session_fails : (profile : Profile) (old : SessionAt L) (bytes : List ℕ) (error : RestoreError) → IsLiving L profile old
      → MayLeave (present old.device) bytes → Refuses error (restored (lines_of profile.checked.geometry) bytes) → old.life ≢ None → IsFailure error
  session_fails profile old bytes error living left refuses some = of_life old.life refl
    where
      of_life : (life : Option (Module K L)) → old.life ≡ life → IsFailure error
      of_life None none = absurd (some none)
      of_life (Some it) runs =
          only_fails error (restored (lines_of profile.checked.geometry) bytes)
          (∥∥₁_map (living.lives it runs)
          (λ (so : LifeSoFar L (assembly it old.device old.gauge)).
          let a = so.answered.runs in let fits : IsShapeFor profile (setup_of L it).shape = living.fits it runs in
          let after : RecoversAfterwards a.last (restored (lines_of profile.checked.geometry) bytes) =
          subst (λ (n : ℕ). IsLeftBy n a.last old.device) fits.lines (left_by_life L (assembly it old.device old.gauge) a.last a.stands) bytes left in
          (after.recovers.slot, after.recovers.image, after.recovers.found)))
          refuses
