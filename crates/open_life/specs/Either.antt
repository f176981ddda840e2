-- One of two devices.
use Rattle.std.specs.Prelude.{◌<◌, ◌^◌, length, Option, Some, None}
use Rattle.save_device.specs.Device.{DeviceState}
use Rattle.open_life.specs.declared.either.EitherDevice.{EitherDevice}
use Rattle.open_life.specs.declared.either.EitherDevice.TheVariants.{First, Second}

-- the state of the one that it is
abbrev pub either_state : {A B : Type 0} → (A → DeviceState) → (B → DeviceState) → EitherDevice A B → DeviceState
either_state of_first of_second (First device) = of_first device
either_state of_first of_second (Second device) = of_second device

-- a place in the row of each fits, so one in the row of either does
abbrev pub either_fits : {A B : Type 0} (of_first : A → DeviceState) (of_second : B → DeviceState) → ((a : A) → length (of_first a).bytes < 2 ^ 64) → ((b : B) → length (of_second b).bytes < 2 ^ 64)
    → (device : EitherDevice A B) → length (either_state of_first of_second device).bytes < 2 ^ 64
either_fits of_first of_second first second (First device) = first device
either_fits of_first of_second first second (Second device) = second device

-- the device, if it is of the first kind
abbrev pub first_in : {A B : Type 0} → EitherDevice A B → Option A
first_in (First device) = Some device
first_in (Second device) = None
