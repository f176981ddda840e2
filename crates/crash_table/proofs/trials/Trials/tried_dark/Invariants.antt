use Rattle.std.proofs.Common.{◌<◌, ℕ, true}
use Rattle.ddr4_timing.specs.Limits.{lines_of}
use Rattle.crash_table.specs.declared.stop.Stop.TheVariants.{Dark}
use Rattle.crash_table.specs.Stops.{dark_below, stopped_lines}
use Rattle.crash_table.specs.Outcomes.{MayEnd}
use Rattle.crash_table.proofs.Trying.{TriesEach}
use Rattle.crash_table.proofs.trials.Trials.tried_dark.Given as goal

abbrev pub invariant-loop-calls : goal.invariant-loop-calls
invariant-loop-calls g l = record {
  tries : TriesEach (lines_of l.self.profile.now.checked.geometry) l.standing.done.items l.line (dark_below l.calls) l.tried.items;
  fails : (fewer : ℕ) → fewer < l.calls → MayEnd (lines_of l.self.profile.now.checked.geometry) (stopped_lines l.standing.done.items l.line (Dark fewer)) true;
}
