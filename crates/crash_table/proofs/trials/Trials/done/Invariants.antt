use Rattle.std.proofs.Common.{◌≡◌, take}
use Rattle.crash_table.specs.Standings.{Stands}
use Rattle.crash_table.proofs.trials.Trials.done.Given as goal

abbrev pub invariant-loop-line : goal.invariant-loop-line
invariant-loop-line g l = record {
  stands : Stands l.self.profile.now l.standing;
  done : l.standing.done.items ≡ take l.line-index l.lines;
}
