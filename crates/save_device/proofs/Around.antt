-- A device around another one, with calls of its own.
use Rattle.std.proofs.Common.{inl, List}
use Rattle.save_device.specs.declared.calls.Call.{Call}
use Rattle.save_device.specs.Device.{DeviceState, Elapses, with_calls}
use Rattle.save_device.proofs.Moments.{started}

-- the same time passes
pub elapses_around : (old new : DeviceState) (before after : List Call) → Elapses old new → Elapses (with_calls old before) (with_calls new after)
elapses_around old new before after time = record { since = time.since; keeps = time.keeps; first = time.first; each = time.each }

-- and none where it wasn't called
pub elapses_unasked : (state : DeviceState) (before after : List Call) → Elapses (with_calls state before) (with_calls state after)
elapses_unasked state before after = elapses_around state state before after (started state (λ image left. inl left))
