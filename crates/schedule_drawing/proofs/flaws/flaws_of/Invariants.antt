use Rattle.std.proofs.Common.{[]}
use Rattle.std.specs.List.{range_with_len}
use Rattle.schedule_drawing.specs.Flaws.{AddsAll}
use Rattle.schedule_drawing.proofs.flaws.flaws_of.Given as goal

abbrev pub invariant-loop-channel : goal.invariant-loop-channel
invariant-loop-channel l = AddsAll l.c l.entries (range_with_len 0 l.channel) [] l.flaws.items
