use Rattle.std.proofs.Common.{◌≡◌, ℕ, ◌<◌, length, get_or}
use Rattle.crash_table.specs.declared.table.OutcomeCount.{OutcomeCount}
use Rattle.crash_table.specs.Rows.{IsAlike}
use Rattle.crash_table.proofs.table.are_alike.Given as goal

abbrev pub invariant-loop-place : goal.invariant-loop-place
invariant-loop-place l = record {
  sizes : length l.rows ≡ length l.others;
  each : (k : ℕ) (d : OutcomeCount) → k < l.place → IsAlike (get_or l.rows k d) (get_or l.others k d);
}
