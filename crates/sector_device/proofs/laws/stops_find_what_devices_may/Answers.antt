use Rattle.std.proofs.Common.{length}
use Rattle.save_device.proofs.Rows.{same_rows}
use Rattle.save_device.specs.Device.{present}
use Rattle.save_device.specs.Memory.{state_of}
use Rattle.sector_device.specs.Spare.{found_in}
use Rattle.sector_device.proofs.Steps.{stands_left}
use Rattle.sector_device.proofs.laws.stops_find_what_devices_may.Goals as goal

pub returns-clause-left : goal.returns-clause-left
returns-clause-left g c = λ device kept image is left. stands_left device.gate (present (state_of device.mirror)) kept device.sectors (device.backed kept is) image left

pub returns-clause-settled : goal.returns-clause-settled
returns-clause-settled g c = λ device kept image is left settled.
    let bytes = (state_of device.mirror).bytes in let found = stands_left device.gate (present (state_of device.mirror)) kept device.sectors (device.backed kept is) image left in
    same_rows bytes (found_in (length bytes) image) (record { size = found.size; outside = λ place _. found.outside place (settled place) })
