use Rattle.std.proofs.Common.{rules}
use Rattle.ddr4_timing.proofs.timing.Timing.fits_entry.Goals as goal

pub returns : goal.returns
returns c = search rules
