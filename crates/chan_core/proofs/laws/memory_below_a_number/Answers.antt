use Rattle.chan_core.proofs.Below.{below-all, below-later, below-none}
use Rattle.chan_core.proofs.laws.memory_below_a_number.Goals as goal

pub returns : goal.returns
returns c = record { none = below-none; all = below-all; later = below-later }
