use Rattle.std.proofs.Common.{All}
use Rattle.ddr4_module.specs.WildLives.{WorksWithin}
use Rattle.crash_trials.proofs.events.events_of.Given as goal

abbrev pub invariant-loop-line : goal.invariant-loop-line
invariant-loop-line l = All (WorksWithin l.profile.checked.geometry.channels) l.events.items
