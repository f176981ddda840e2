-- How a life begins.
use Rattle.std.specs.Prelude.{Bool, false, [], None}
use Rattle.save_image.specs.Image.{Image}
use Rattle.slot_store.specs.declared.slots.Slot.{Slot}
use Rattle.slot_store.specs.Rest.{only}
use Rattle.arm_state.specs.declared.mode.Mode.TheVariants as modes
use Rattle.channel_port.specs.Waits.{nothing}
use Rattle.nv_machine.specs.State.{Machine}

-- The machine at the beginning of a life, with the image that a restore found in a slot: its writes are persistent, and nothing
-- waits. It is told whether the other slot's gate is known closed and settled.
abbrev pub new_life : Slot → Bool → Image → Machine
new_life slot closed image = record {
  mode = modes.Disarmed;
  reading = 0;
  lost = None;
  life = record { opened = image; writes = []; persisted = image.count };
  cut = image.count;
  waits = nothing;
  store = record { maybe = only slot image; closed = closed; unsettled = false; saving = None };
}
