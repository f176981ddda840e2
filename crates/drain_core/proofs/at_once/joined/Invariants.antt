use Rattle.std.proofs.Common.{◌≡◌, ℕ, ◌-◌, ◌<◌, ◌≤◌, length}
use Rattle.std.specs.Prelude.{slice_index_or, None}
use Rattle.drain_core.proofs.at_once.joined.Given as goal

abbrev pub invariant-loop-i : goal.invariant-loop-i
invariant-loop-i l =
    ((i : ℕ) → i < l.half → slice_index_or l.reports i None ≡ slice_index_or l.one i None)
    × ((i : ℕ) → l.half ≤ i → i < l.i → slice_index_or l.reports i None ≡ slice_index_or l.other (i - l.half) None)
    × (length l.reports ≡ 8)
