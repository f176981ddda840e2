-- A device of two kinds, of which the second notes its changes.
use Rattle.std.specs.Prelude.{List, [], map}
use Rattle.save_device.specs.Changes.{Change}
use Rattle.noted_device.specs.declared.device.NotedDevice.{NotedDevice}
use Rattle.noted_device.specs.Notes.{change_of}
use Rattle.open_life.specs.declared.either.EitherDevice.{EitherDevice}
use Rattle.open_life.specs.declared.either.EitherDevice.TheVariants.{First, Second}

-- the changes that are noted of it, the oldest first
abbrev pub changes_in : {A : Type 0} → EitherDevice A NotedDevice → List Change
changes_in (First device) = []
changes_in (Second device) = map change_of device.notes.items
