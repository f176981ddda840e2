use Rattle.std.proofs.Common.{All}
use Rattle.ddr4_module.specs.WildLives.{WorksWithin}
use Rattle.crash_trials.proofs.events.add_step.Given as goal

abbrev pub invariant-loop-channel : goal.invariant-loop-channel
invariant-loop-channel l = All (WorksWithin l.channels) l.events.items
