-- Devices of which one is a copy of the other.
use Rattle.std.specs.Prelude.{◌≡◌}
use Rattle.save_device.specs.declared.fuse.Fuse.{Fuse}
use Rattle.save_device.specs.declared.memory.MemoryDevice.{MemoryDevice}
use Rattle.save_device.specs.declared.one_fault.OneFault.{OneFault}
use Rattle.save_device.specs.Memory.{settled_row_of, state_of}

-- both are in the same state, and have the same bytes at the last sync
pub record AreAlike (old new : MemoryDevice) : Type 0 where
  pub state : state_of new ≡ state_of old
  pub settled : settled_row_of new ≡ settled_row_of old

-- both pass as many calls, and have counted the same
pub record AreFusesAlike (old new : Fuse MemoryDevice) : Type 0 where
  pub within : AreAlike old.device new.device
  pub left : new.left ≡ old.left
  pub calls : new.calls ≡ old.calls

-- as many calls pass before the one that fails, and both have counted the same
pub record AreFaultsAlike (old new : OneFault (Fuse MemoryDevice)) : Type 0 where
  pub within : AreFusesAlike old.device new.device
  pub before : new.before ≡ old.before
  pub calls : new.calls ≡ old.calls
