use Rattle.std.proofs.Common.{All}
use Rattle.ddr4_module.specs.WildLives.{WorksWithin}
use Rattle.crash_trials.proofs.events.add_steps.Given as goal

abbrev pub invariant-loop-step : goal.invariant-loop-step
invariant-loop-step l = All (WorksWithin l.channels) l.events.items
