use Rattle.std.proofs.Common.{◌≡◌, ℕ, ◌<◌, ◌≤◌, None, Some, slice_index_or}
use Rattle.auto_precharge.specs.declared.waiting.Closing.{Closing}
use Rattle.auto_precharge.proofs.waiting.soonest_of.Given as goal

abbrev pub invariant-loop-i : goal.invariant-loop-i
invariant-loop-i l = (k : ℕ) (p : Closing) → k < l.i → slice_index_or l.closings k None ≡ Some p → l.soonest ≤ p.clock
