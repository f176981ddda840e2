-- A copy of a session lives as the session does.
use Rattle.std.proofs.Common.{◌≡◌, ℕ, refl, subst, sym}
use Rattle.std.proofs.Math.Logic.{∥∥₁_map}
use Rattle.std.specs.Prelude.{Option, Some, None}
use Rattle.save_device.specs.Copies.{AreFaultsAlike}
use Rattle.save_device.specs.Device.{DeviceState, with_calls}
use Rattle.save_device.specs.declared.fuse.Fuse.{Fuse}
use Rattle.save_device.specs.declared.memory.MemoryDevice.{MemoryDevice}
use Rattle.save_device.specs.declared.one_fault.OneFault.{OneFault}
use Rattle.energy_budget.specs.Gauge.{Gauge}
use Rattle.channel_port.specs.declared.port.ChannelPort.{Ghosts}
use Rattle.module_core.specs.Copies.{IsCopyOf}
use Rattle.module_core.specs.Stands.{assembly, setup_of}
use Rattle.module_core.specs.declared.front.Front.{Front}
use Rattle.module_core.specs.declared.module.Module.{Module}
use Rattle.nv_machine.specs.State.{Machine, Setup}
use Rattle.nv_profile.specs.declared.profile.Profile.{Profile}
use Rattle.nv_session.specs.Copies.{AreLivesAlike}
use Rattle.nv_session.specs.Living.{HasLife, IsLiving, IsShapeFor, SessionAt, device_state, session_at}
use Rattle.nv_session.specs.Restoring.{GoesBackTo}

-- the devices are in the same state to the life
pub device_same : (old new : OneFault (Fuse MemoryDevice)) → AreFaultsAlike old new → device_state new ≡ device_state old
device_same old new alike = λ i. with_calls (alike.within.within.state i) (alike.calls i)

-- what is true of the one that there is
only : {A : Type 0} (P : A → Type 0) (x : A) → P x → (y : A) → Some x ≡ Some y → P y
only P x here y is = let same : x ≡ y = cc in subst P same here

module _ {K : Type 0} (L : Ghosts K) where
  living-some : (profile : Profile) (old new : Module K L) (device : DeviceState) (gauge : Gauge) → IsCopyOf L old new
      → IsLiving L profile (session_at (Some old) device gauge) → IsLiving L profile (session_at (Some new) device gauge)
  living-some profile old new device gauge copy living = record {
    size = living.size;
    fits = only (λ (it : Module K L). IsShapeFor profile (setup_of L it).shape) new
        (subst (λ (setup : Setup). IsShapeFor profile setup.shape) (sym copy.setup) (living.fits old refl));
    lives = only (λ (it : Module K L). HasLife L (assembly it device gauge)) new (∥∥₁_map (living.lives old refl) (copy.lived device gauge));
    cut = only (λ (it : Module K L). it.front.terms.cut ≡ it.front.saved) new
        (subst (λ (front : Front). front.terms.cut ≡ front.saved) (sym copy.same.front) (living.cut old refl));
  }

  living-here : (profile : Profile) (old new : Option (Module K L)) (device : DeviceState) (gauge : Gauge) → AreLivesAlike L old new
      → IsLiving L profile (session_at old device gauge) → IsLiving L profile (session_at new device gauge)
  living-here profile None None device gauge alike living = living
  living-here profile (Some old) (Some new) device gauge alike living = living-some profile old new device gauge alike living
  living-here profile None (Some new) device gauge alike living = absurd alike
  living-here profile (Some old) None device gauge alike living = absurd alike

  -- a copy of the life that runs, with a device and a gauge that show the same
  pub living_same : (profile : Profile) (old new : Option (Module K L)) (before device : DeviceState) (was gauge : Gauge) → AreLivesAlike L old new → device ≡ before → gauge ≡ was
      → IsLiving L profile (session_at old before was) → IsLiving L profile (session_at new device gauge)
  living_same profile old new before device was gauge alike same_device same_gauge living =
      subst (λ (at : SessionAt L). IsLiving L profile at) (λ i. session_at new (sym same_device i) (sym same_gauge i)) (living-here profile old new before was alike living)

  goes-here : (lines : ℕ) (old new : Option (Module K L)) (device : DeviceState) (gauge : Gauge) (m : Machine) → AreLivesAlike L old new
      → GoesBackTo L lines (session_at old device gauge) m → GoesBackTo L lines (session_at new device gauge) m
  goes-here lines None None device gauge m alike back = back
  goes-here lines (Some old) (Some new) device gauge m alike back = alike.stands device m back
  goes-here lines None (Some new) device gauge m alike back = absurd alike
  goes-here lines (Some old) None device gauge m alike back = absurd alike

  -- and it stands for the same machines
  pub goes_back_same : (lines : ℕ) (old new : Option (Module K L)) (before device : DeviceState) (was gauge : Gauge) (m : Machine) → AreLivesAlike L old new → device ≡ before → gauge ≡ was
      → GoesBackTo L lines (session_at old before was) m → GoesBackTo L lines (session_at new device gauge) m
  goes_back_same lines old new before device was gauge m alike same_device same_gauge back =
      subst (λ (at : SessionAt L). GoesBackTo L lines at m) (λ i. session_at new (sym same_device i) (sym same_gauge i)) (goes-here lines old new before was m alike back)
