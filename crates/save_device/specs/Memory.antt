-- What a device in memory is, to its callers.
use Rattle.std.specs.Prelude.{ℕ, false, List, map, slice_index_or}
use Rattle.save_device.specs.declared.memory.Content.{Content}
use Rattle.save_device.specs.declared.memory.MemoryDevice.{MemoryDevice}
use Rattle.save_device.specs.declared.memory.Pick.{Pick}
use Rattle.save_device.specs.Device.{Moment, DeviceState}
use Rattle.save_device.specs.Pick.{IsPickedFrom}

-- a moment with this content
abbrev pub moment_of : Content → Moment
moment_of content = record { bytes = content.bytes.items; unsettled = λ place. slice_index_or content.unsettled.items place false }

abbrev pub state_of : MemoryDevice → DeviceState
state_of device = record {
  bytes = device.content.bytes.items;
  unsettled = λ place. slice_index_or device.content.unsettled.items place false;
  earlier = map moment_of device.earlier.items;
  calls = device.calls;
}

-- what a read gave at the last sync
abbrev pub settled_row_of : MemoryDevice → List ℕ
settled_row_of device = device.settled.items

-- this image has the picked byte in each unsettled place
abbrev pub IsPicked : Pick → MemoryDevice → List ℕ → Type 0
IsPicked pick device = IsPickedFrom pick (settled_row_of device) (state_of device).unsettled (state_of device).bytes
