use Rattle.std.proofs.Common.{◌≡◌, ℕ, ◌<◌, ◌≤◌, None, length, slice_index_or}
use Rattle.auto_precharge.specs.Unfolding.{rest}
use Rattle.auto_precharge.proofs.waiting.drop_due.Given as goal

abbrev pub invariant-loop-i : goal.invariant-loop-i
invariant-loop-i l = record {
  size : length l.closings ≡ length l.fn.closings;
  done : (k : ℕ) → k < l.i → slice_index_or l.closings k None ≡ rest l.clock (slice_index_or l.fn.closings k None);
  left : (k : ℕ) → l.i ≤ k → slice_index_or l.closings k None ≡ slice_index_or l.fn.closings k None;
}
