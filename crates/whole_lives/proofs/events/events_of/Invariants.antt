use Rattle.std.proofs.Common.{◌≤◌, All, length}
use Rattle.ddr4_module.specs.WildLives.{WorksWithin}
use Rattle.whole_lives.proofs.Asking.{IsAskedSoFar}
use Rattle.whole_lives.proofs.events.events_of.Given as goal

abbrev pub invariant-loop-left : goal.invariant-loop-left
invariant-loop-left l = record {
  so_far : IsAskedSoFar l.asks l.left l.events.items;
  within : All (WorksWithin l.channels) l.events.items;
  fewer : length l.left ≤ length l.asks;
}

abbrev pub decreases-loop-left : goal.decreases-loop-left
decreases-loop-left l = length l.left
