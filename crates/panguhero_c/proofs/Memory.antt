-- A device that is one in memory.
use Rattle.std.proofs.Common.{◌≡◌, Option, Some, ap}
use Rattle.std.specs.Prelude.{unwrap_or}
use Rattle.save_device.specs.Device.{DeviceState}
use Rattle.open_life.specs.declared.either.EitherDevice.{EitherDevice}
use Rattle.open_life.specs.declared.either.EitherDevice.TheVariants.{First, Second}
use Rattle.open_life.specs.Either.{either_state, first_in}

pub first_state : {A B : Type 0} (of_first : A → DeviceState) (of_second : B → DeviceState) (device : EitherDevice A B) (first : A) → first_in device ≡ Some first
    → either_state of_first of_second device ≡ of_first first
first_state of_first of_second (First device) first is = ap (λ (it : Option _). of_first (unwrap_or it first)) is
first_state of_first of_second (Second device) first is = absurd (let bad : ⊥ = cc in bad)
