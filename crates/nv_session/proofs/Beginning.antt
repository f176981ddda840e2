-- How a life begins after a format, and after a restore.
use Rattle.std.proofs.Common.{◌≡◌, ◌∙◌, ℕ, List, refl, sym, ap, subst, true, Option}
use Rattle.nv_session.proofs.Common.{DeviceState, Ghosts, Head, IsShapeFor, Module, ModuleStands, Outcome, Profile}
use Rattle.nv_session.proofs.Common.{Revives, RunsWith, Setup, first_image, device_state, lines_of, restored}
use Rattle.interleave_map.specs.declared.ready.Interleaving.{Interleaving}
use Rattle.line_memory.specs.Memory.{zero_lines}
use Rattle.save_image.specs.Image.{Image}
use Rattle.slot_store.specs.declared.restoring.Restored.{Restored}
use Rattle.slot_store.specs.declared.slots.Slot.TheVariants.{First}
use Rattle.slot_store.specs.Formatted.{first_head}
use Rattle.slot_store.specs.Outcomes as outcome
use Rattle.slot_store.specs.Rest.{IsAtRestOn}
use Rattle.slot_store.specs.Slots.{IsCapacity}
use Rattle.slot_store.specs.Told.{IsRestored, image_of_head, image_of_restored}
use Rattle.channel_port.specs.Shape.{Shape}
use Rattle.module_core.specs.Opening.{opened_with}
use Rattle.nv_session.specs.declared.session.Session.{Session}
use Rattle.nv_session.specs.declared.wires.Wires as wires
use Rattle.nv_session.specs.Sessions.{restored_in, setup_over}

-- a memory of the profile's lines fills whole pages
pub is_capacity : (profile : Profile) (shape : Shape) (lines : ℕ) → IsShapeFor profile shape → lines ≡ lines_of profile.checked.geometry → IsCapacity lines
is_capacity profile shape lines fits is =
    subst (λ (n : ℕ). IsCapacity n) (fits.lines ∙ sym is) (record { some = fits.shaped.some; most = fits.shaped.most; whole = fits.shaped.whole })

-- what a restore found is what the device is at rest on
pub record FindsRestored (lines : ℕ) (it : Restored) (bytes : List ℕ) (device : DeviceState) : Type 0 where
  pub restored_is : IsRestored it lines bytes
  pub rests : (image : Image) → restored lines bytes ≡ outcome.Found it.head.newest.slot image → IsAtRestOn it.head.newest.slot image lines it.head.closed device

module _ {K : Type 0} (L : Ghosts K) where
  -- a life with this head and memory: over a device at rest on the image the module stands for a new one
  abbrev pub BeginsLife : Head → List (List ℕ) → ℕ → Module K L → Type 0
  BeginsLife head memory lines it = (arm : ℕ) (device : DeviceState) → IsAtRestOn head.newest.slot (image_of_head head arm memory) lines head.closed device
      → ModuleStands L it device (opened_with head (image_of_head head arm memory))

  pub begins_formatted : (it : Module K L) (lines held : ℕ) (head : Head) (memory : List (List ℕ)) (device : DeviceState) → BeginsLife head memory lines it → head ≡ first_head → held ≡ lines
      → memory ≡ zero_lines held → IsAtRestOn First (first_image held) held true device → ModuleStands L it device (opened_with first_head (first_image lines))
  begins_formatted it lines held head memory device begins is same zero rest =
      let first : BeginsLife first_head memory lines it = subst (λ (h : Head). BeginsLife h memory lines it) is begins in
      let zeros : BeginsLife first_head (zero_lines lines) lines it = subst (λ (m : List (List ℕ)). BeginsLife first_head m lines it) (zero ∙ ap zero_lines same) first in
      zeros 0 device (subst (λ (n : ℕ). IsAtRestOn First (first_image n) n true device) same rest)

  pub revives_restored : (lines : ℕ) (it : Restored) (bytes : List ℕ) (life : Module K L) (device : DeviceState)
      → FindsRestored lines it bytes device → BeginsLife it.head it.lines.items lines life → Revives L (restored lines bytes) it.head life device
  revives_restored lines it bytes life device finds begins =
      let restored_is : IsRestored it lines bytes = finds.restored_is in let image : Image = image_of_restored it restored_is.arm in
      record {
        image = image;
        finds = restored_is.newest;
        tells = record { generation_is = refl; count_is = refl; verdict_is = restored_is.judged };
        stands = begins restored_is.arm device (finds.rests image restored_is.newest);
      }

  -- the same, with what it is told of by other names
  pub revives_again : (setup setup' : Setup) (restores restores' : Outcome) (found : Head) (device : DeviceState) (life : Option (Module K L))
      → setup ≡ setup' → restores ≡ restores' → RunsWith L setup (λ it. Revives L restores found it device) life → RunsWith L setup' (λ it. Revives L restores' found it device) life
  revives_again setup setup' restores restores' found device life same same_image runs = record {
    it = runs.it;
    runs = runs.runs;
    over = runs.over ∙ same;
    holds = subst (λ (what : Outcome). Revives L what found runs.it device) same_image runs.holds;
  }

-- the setup is that of the profile and of what makes the channels
pub same_setup : {K A : Type 0} {L : Ghosts K} {W : wires.Ghosts A K} (old new : Session K A L W) (map map' : Interleaving)
    → new.profile ≡ old.profile → new.wires ≡ old.wires → map ≡ map' → setup_over new map ≡ setup_over old map'
same_setup {W = W} old new map map' profile wires same = cc

-- what the bytes restore to is told by them and the profile
pub same_restored : {K A : Type 0} {L : Ghosts K} {W : wires.Ghosts A K} (old new : Session K A L W)
    → new.profile ≡ old.profile → (device_state new.device).bytes ≡ (device_state old.device).bytes → restored_in new ≡ restored_in old
same_restored {W = W} old new profile bytes = cc
