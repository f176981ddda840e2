use Rattle.std.proofs.Common.{◌≡◌, ℕ, ◌*◌, ◌≤◌, Some, slice_get, take}
use Rattle.ddr4_timing.specs.declared.command.Stamped.{Stamped}
use Rattle.all_faults.specs.Faults.{AreFaultsUpTo, AreLatest}
use Rattle.all_faults.specs.Left.{IsLeftBy}
use Rattle.all_faults.proofs.faults.all_faults.Given as goal

abbrev pub invariant-loop-second : goal.invariant-loop-second
invariant-loop-second l = record {
  faults : AreFaultsUpTo l.c l.list (16 * l.second) l.faults.items;
  left : IsLeftBy l.c.geometry l.left (take l.second l.list);
  latest : AreLatest (take l.second l.list) l.latest.items;
  highest : (k : ℕ) (a : Stamped) → slice_get (take l.second l.list) k ≡ Some a → a.clock ≤ l.highest;
}
