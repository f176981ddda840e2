use Rattle.std.proofs.Common.{◌-◌}
use Rattle.file_device.proofs.host.write_zeros.Given as goal

abbrev pub decreases-loop-at : goal.decreases-loop-at
decreases-loop-at l = l.len - l.at
