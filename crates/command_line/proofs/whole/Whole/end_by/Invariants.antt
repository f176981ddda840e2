use Rattle.std.proofs.Common.{◌<◌, ◌≤◌, ℕ, get_or}
use Rattle.ddr4_timing.specs.declared.command.Stamped.{Stamped}
use Rattle.command_line.proofs.whole.Whole.end_by.Given as goal

abbrev pub invariant-loop-at : goal.invariant-loop-at
invariant-loop-at l = (k : ℕ) (d : Stamped) → get_or l.self.told.items l.channel 0 ≤ k → k < l.at → (get_or l.commands.items k d).clock ≤ l.last
