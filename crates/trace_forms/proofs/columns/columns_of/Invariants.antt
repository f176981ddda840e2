use Rattle.std.proofs.Common.{◌≡◌, length}
use Rattle.trace_forms.proofs.Places.{AreColumnsUpTo}
use Rattle.trace_forms.proofs.columns.columns_of.Given as goal

abbrev pub invariant-loop-place : goal.invariant-loop-place
invariant-loop-place l = (length l.columns.places ≡ 8) × AreColumnsUpTo l.place l.order l.columns
