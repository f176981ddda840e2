-- How a life begins on a device.
use Rattle.std.proofs.Common.{◌≡◌, ◌∙◌, ◌⊎◌, inl, inr, ℕ, true, false, List, length, ap, sym, subst}
use Rattle.std.specs.Prelude.{◌==◌}
use Rattle.std.proofs.lemmas.Bool.{cases_Bool, eqb-false, eqb-true}
use Rattle.slot_store.specs.Outcomes.{NoImage, WrongSize, restored}
use Rattle.slot_store.specs.Slots.{HasSize, device_size}
use Rattle.slot_store.proofs.Picked.{wrong_size}
use Rattle.nv_session.proofs.Common.{DeviceState, Ghosts, HasDevice, IsShapeFor, Module, Profile, Setup, lines_of, setup_of}

-- a device that holds no image has the size of a store
pub sized : (lines : ℕ) (bytes : List ℕ) → restored lines bytes ≡ NoImage → length bytes ≡ device_size lines
sized lines bytes none = by_test (cases_Bool (length bytes == device_size lines))
  where
    by_test : ((length bytes == device_size lines) ≡ true) ⊎ ((length bytes == device_size lines) ≡ false) → length bytes ≡ device_size lines
    by_test (inl is) = eqb-true (length bytes) (device_size lines) is
    by_test (inr not) =
        let wrong : restored lines bytes ≡ WrongSize = wrong_size lines bytes (eqb-false (length bytes) (device_size lines) not) in
        absurd (let bad : ⊥ = cc in bad)

module _ {K : Type 0} (L : Ghosts K) where
  -- a module that was opened so is of the profile's lines, and a device of the profile's size has that of its images
  pub opened_fits : (it : Module K L) (profile : Profile) (setup : Setup) → IsShapeFor profile setup.shape → setup_of L it ≡ setup → IsShapeFor profile (setup_of L it).shape
  opened_fits it profile setup fits is = subst (λ (s : Setup). IsShapeFor profile s.shape) (sym is) fits

  pub opened_sized : (it : Module K L) (profile : Profile) (setup : Setup) (device : DeviceState) → IsShapeFor profile setup.shape → setup_of L it ≡ setup
      → HasSize (lines_of profile.checked.geometry) device → HasDevice L it device
  opened_sized it profile setup device fits is size =
      subst (λ (n : ℕ). HasSize n device) (sym fits.lines ∙ ap (λ (s : Setup). s.shape.lines) (sym is)) size
