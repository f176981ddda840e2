use Rattle.std.proofs.Common.{◌≡◌, take}
use Rattle.ddr4_timing.specs.Limits.{lines_of}
use Rattle.crash_table.specs.Standings.{Stands}
use Rattle.crash_table.specs.Tables.{TellsFirst}
use Rattle.crash_table.proofs.trials.Trials.table_behind.Given as goal

abbrev pub invariant-loop-place : goal.invariant-loop-place
invariant-loop-place g l = record {
  tells : TellsFirst (lines_of l.self.profile.now.checked.geometry) l.script l.place l.table;
  stands : Stands l.self.profile.now l.standing;
  done : l.standing.done.items ≡ take l.place l.script.lines.items;
}
