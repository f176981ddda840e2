use Rattle.std.proofs.Common.{All}
use Rattle.ddr4_module.specs.WildLives.{WorksWithin}
use Rattle.crash_trials.proofs.events.add_works.Given as goal

abbrev pub invariant-loop-work : goal.invariant-loop-work
invariant-loop-work l = All (WorksWithin l.channels) l.events.items
