use Rattle.std.proofs.Common.{◌≡◌, map, take, All}
use Rattle.ddr4_timing.specs.Limits.{lines_of}
use Rattle.crash_table.specs.Stops.{picks, with_picks}
use Rattle.crash_table.specs.Outcomes.{IsTried, tried_at}
use Rattle.crash_table.proofs.trials.Trials.try_stop.Given as goal

abbrev pub invariant-loop-pick : goal.invariant-loop-pick
invariant-loop-pick g l = record {
  each : map tried_at l.tried.items ≡ with_picks (take l.pick-index picks) l.stop;
  are : All (IsTried (lines_of l.self.profile.now.checked.geometry) l.standing.done.items l.fn.line) l.tried.items;
}
