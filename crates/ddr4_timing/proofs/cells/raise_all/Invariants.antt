use Rattle.std.proofs.Common.{◌≡◌, ℕ, ◌<◌, ◌≤◌, cond, eqb, slice_index_or, max}
use Rattle.ddr4_timing.proofs.cells.raise_all.Given as goal

abbrev pub invariant-loop-number : goal.invariant-loop-number
invariant-loop-number l = record {
  done : (k none : ℕ) → k < l.number → slice_index_or l.cells k none ≡ max (slice_index_or l.fn.cells k none) (cond (eqb l.one k) l.near l.far);
  left : (k none : ℕ) → l.number ≤ k → slice_index_or l.cells k none ≡ slice_index_or l.fn.cells k none;
}
