-- Devices on which no save has ended.
use Rattle.std.proofs.Common.{◌≡◌, ◌∙◌, ◌⊎◌, inl, inr, ℕ, ◌+◌, ◌-◌, ◌*◌, ◌<◌, ◌≤◌, true, false, List, length, drop, take, get_or, length-drop, arith, ap, refl, subst, sym}
use Rattle.std.specs.Prelude.{◌==◌, Ok, slice_index, slice_range}
use Rattle.std.proofs.lemmas.Bool.{cases_Bool, cases_lt, eqb-false, eqb-true}
use Rattle.std.proofs.lemmas.List.{get_or-drop, get_or-take, length-take-le}
use Rattle.slot_store.specs.Outcomes.{NoImage, WrongSize, first_image, restored}
use Rattle.slot_store.specs.Slots.{HasSize, device_size}
use Rattle.slot_store.proofs.Picked.{wrong_size}
use Rattle.energy_budget.specs.Gauge.{Gauge}
use Rattle.slot_store.specs.Formatted.{first_head}
use Rattle.slot_store.specs.declared.restoring.Restored.{Restored}
use Rattle.module_core.specs.Opening.{opened_with}
use Rattle.nv_session.proofs.Common.{DeviceState, Ghosts, HasDevice, IsShapeFor, Module, ModuleStands, Profile, Revives, Setup, assembly, lines_of, setup_of}
use Rattle.nv_session.proofs.Beginning.{BeginsLife, FindsRestored, revives_restored}
use Rattle.nv_script.specs.declared.answer.Answer.{Answer}
use Rattle.nv_script.specs.declared.answer.Answer.TheVariants as answer
use Rattle.script_runner.specs.Replies.{restore_told}
use Rattle.live_store.specs.Starts.{Begins, HasZeros, IsUnused}
use Rattle.live_store.proofs.Turns.{stands_as}

-- bytes that were read are zeros where they stand
pub zeros_read : (at front : ℕ) (bytes page : List ℕ) → at + 4096 ≤ length bytes → front ≤ 1 → page ≡ slice_range bytes at (at + 4096)
    → ((k : ℕ) → k < length (take (4096 - front) (drop front page)) → slice_index (take (4096 - front) (drop front page)) k ≡ 0) → HasZeros (at + front) (4096 - front) bytes
zeros_read at front bytes page within small is zeros k below =
    let count : at + 4096 - at ≡ 4096 = omega arith in
    let part : page ≡ take 4096 (drop at bytes) = is ∙ ap (λ (m : ℕ). take m (drop at bytes)) count in
    let size : length page ≡ 4096 = ap length part ∙ length-take-le 4096 (drop at bytes) (omega (arith, length-drop at bytes)) in
    let rest : length (drop front page) ≡ 4096 - front = length-drop front page ∙ ap (λ (m : ℕ). m - front) size in
    let all : length (take (4096 - front) (drop front page)) ≡ 4096 - front = length-take-le (4096 - front) (drop front page) (omega (arith, rest)) in
    let place : at + (front + k) ≡ at + front + k = omega arith in
    ap (λ (m : ℕ). get_or bytes m 0) (sym place) ∙ sym (get_or-drop at bytes (front + k) 0) ∙ sym (get_or-take 4096 (drop at bytes) (front + k) 0 (omega arith))
    ∙ ap (λ (row : List ℕ). get_or row (front + k) 0) (sym part) ∙ sym (get_or-drop front page k 0) ∙ sym (get_or-take (4096 - front) (drop front page) k 0 below)
    ∙ zeros k (omega (arith, all, below))

-- zeros behind zeros
pub zeros_joined : (first at n : ℕ) (bytes : List ℕ) → first ≤ at → HasZeros first (at - first) bytes → HasZeros at n bytes → HasZeros first (at + n - first) bytes
zeros_joined first at n bytes from before behind k within = by_place (cases_lt k (at - first))
  where
    by_place : (k < at - first) ⊎ (at - first ≤ k) → slice_index bytes (first + k) ≡ 0
    by_place (inl early) = before k early
    by_place (inr late) =
        let place : at + (k - (at - first)) ≡ first + k = omega arith in
        subst (λ (p : ℕ). slice_index bytes p ≡ 0) place (behind (k - (at - first)) (omega arith))

-- a page more, of which the first one has the commit byte in front
pub zeros_paged : (slot page front : ℕ) (bytes : List ℕ) → front ≡ 1 - page → HasZeros (slot + 1) (4096 * page - 1) bytes → HasZeros (slot + 4096 * page + front) (4096 - front) bytes
    → HasZeros (slot + 1) (4096 * (page + 1) - 1) bytes
zeros_paged slot page front bytes is before here =
    let at : ℕ = slot + 4096 * page + front in
    let done : at - (slot + 1) ≡ 4096 * page - 1 = omega arith in
    let whole : at + (4096 - front) - (slot + 1) ≡ 4096 * (page + 1) - 1 = omega arith in
    subst (λ (n : ℕ). HasZeros (slot + 1) n bytes) whole
    (zeros_joined (slot + 1) at (4096 - front) bytes (omega arith) (subst (λ (n : ℕ). HasZeros (slot + 1) n bytes) (sym done) before) here)

-- a device that holds no image has the size of a store
pub sized : (lines : ℕ) (bytes : List ℕ) → restored lines bytes ≡ NoImage → length bytes ≡ device_size lines
sized lines bytes none = by_test (cases_Bool (length bytes == device_size lines))
  where
    by_test : ((length bytes == device_size lines) ≡ true) ⊎ ((length bytes == device_size lines) ≡ false) → length bytes ≡ device_size lines
    by_test (inl is) = eqb-true (length bytes) (device_size lines) is
    by_test (inr not) =
        let wrong : restored lines bytes ≡ WrongSize = wrong_size lines bytes (eqb-false (length bytes) (device_size lines) not) in
        absurd (let bad : ⊥ = cc in bad)

module _ {K : Type 0} (L : Ghosts K) where
  -- a life that began with what was restored, and one on a device that was formatted
  pub begins_found : (lines : ℕ) (it : Restored) (given : Answer) (bytes : List ℕ) (running life : Module K L) (device there : DeviceState) (gauge : Gauge) → given ≡ restore_told (Ok it.head)
      → life ≡ running → there ≡ device → device.bytes ≡ bytes → FindsRestored lines it bytes device → BeginsLife L it.head it.lines.items lines running → Begins L lines given bytes (assembly life there gauge)
  begins_found lines it given bytes running life device there gauge told same at stay finds begins =
      let revives : Revives L (restored lines bytes) it.head running device = revives_restored L lines it bytes running device finds begins in
      subst (λ (a : Answer). Begins L lines a bytes (assembly life there gauge)) (sym told) (
        it.head,
        refl,
        subst (λ (l : Module K L). Revives L (restored lines bytes) it.head l there) (sym same) (subst (λ (d : DeviceState). Revives L (restored lines bytes) it.head running d) (sym at) revives),
        ap (λ (d : DeviceState). d.bytes) at ∙ stay,
      )

  pub begins_blank : (lines : ℕ) (given : Answer) (bytes : List ℕ) (running life : Module K L) (device there : DeviceState) (gauge : Gauge) → given ≡ answer.Formatted
      → life ≡ running → there ≡ device → restored lines bytes ≡ NoImage → IsUnused lines bytes → ModuleStands L running device (opened_with first_head (first_image lines))
      → Begins L lines given bytes (assembly life there gauge)
  begins_blank lines given bytes running life device there gauge told same at none unused stands =
      subst (λ (a : Answer). Begins L lines a bytes (assembly life there gauge)) (sym told)
      (none, unused, stands_as L running life device there (opened_with first_head (first_image lines)) same at stands)

  -- a module that was opened so has the profile's channels, and a device of the profile's size has that of its images
  pub opened_channels : (it : Module K L) (profile : Profile) (setup : Setup) → IsShapeFor profile setup.shape → setup_of L it ≡ setup → profile.checked.geometry.channels ≡ (setup_of L it).shape.channels
  opened_channels it profile setup fits is = sym fits.channels ∙ ap (λ (s : Setup). s.shape.channels) (sym is)

  pub opened_sized : (it : Module K L) (profile : Profile) (setup : Setup) (device : DeviceState) → IsShapeFor profile setup.shape → setup_of L it ≡ setup
      → HasSize (lines_of profile.checked.geometry) device → HasDevice L it device
  opened_sized it profile setup device fits is size =
      subst (λ (n : ℕ). HasSize n device) (sym fits.lines ∙ ap (λ (s : Setup). s.shape.lines) (sym is)) size
