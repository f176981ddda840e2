-- What the calls of a device make of its state.
use Rattle.std.specs.Prelude.{◌≡◌, ◌⊎◌, ℕ, Bool, IsTrue, List, [], ◌∷◌, ◌++◌, length, replicate, ⊤}
use Rattle.std.specs.Bool.{OnTrue}
use Rattle.save_device.specs.declared.calls.CallKind.{CallKind}
use Rattle.save_device.specs.declared.calls.CallKind.TheVariants.{Read, Write, Sync}
use Rattle.save_device.specs.Calls.{called, MakesCalls}
use Rattle.save_device.specs.Rows.{IsInRange, overwritten, DiffersOnlyAt}
use Rattle.save_device.specs.Device.{DeviceState, present, MayLeave, IsSettled, LeavesOnly, Elapses}

-- what a call changes: it puts bytes at a place, or makes all durable
pub data Change : Type 0 where
  Put : ℕ → List ℕ → Change
  Settle : Change

-- the call that makes it
abbrev pub call_of : Change → CallKind
call_of (Put at bytes) = Write
call_of Settle = Sync

-- the places that it writes
abbrev pub Touches : Change → ℕ → Type 0
Touches (Put at bytes) place = IsInRange at (length bytes) place
Touches Settle place = ⊥

-- the bytes after it
abbrev pub changed : Change → List ℕ → List ℕ
changed (Put at bytes) row = overwritten row at bytes
changed Settle row = row

-- a sync settles all
abbrev pub IsSettledBy : Change → DeviceState → Type 0
IsSettledBy (Put at bytes) state = ⊤
IsSettledBy Settle state = IsSettled state

-- one call, which went well or not: it is counted, and time passes
pub record IsCall (kind : CallKind) (good : Bool) (old new : DeviceState) : Type 0 where
  pub counted : new.calls ≡ old.calls ++ called kind good ∷ []
  pub time : Elapses old new

-- One call that is to make this change, and went well or not. Where it failed, the bytes that it was to write are unknown.
pub record Makes (change : Change) (good : Bool) (old new : DeviceState) : Type 0 where
  pub call : IsCall (call_of change) good old new
  pub done : OnTrue good (new.bytes ≡ changed change old.bytes)
  pub settled : OnTrue good (IsSettledBy change new)
  pub outside : DiffersOnlyAt (Touches change) old.bytes new.bytes
  pub unsettled : (place : ℕ) → IsTrue (new.unsettled place) → IsTrue (old.unsettled place) ⊎ Touches change place

-- So many reads and no other call, none of which failed, or the last one: nothing has changed, and a stop leaves what it
-- could leave before.
pub record OnlyReads (count : ℕ) (good : Bool) (old new : DeviceState) : Type 0 where
  pub calls : MakesCalls (replicate count Read) good old.calls new.calls
  pub same : present new ≡ present old
  pub time : LeavesOnly old new (MayLeave (present old))
