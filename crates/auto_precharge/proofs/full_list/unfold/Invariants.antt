use Rattle.std.proofs.Common.{take}
use Rattle.auto_precharge.specs.FullLists.{ListsAll}
use Rattle.auto_precharge.specs.Unfolding.{IsLawfulTrace, unfolded}
use Rattle.auto_precharge.proofs.full_list.unfold.Given as goal

abbrev pub invariant-loop-i : goal.invariant-loop-i
invariant-loop-i l = IsLawfulTrace l.rules l.found → ListsAll l.rules l.full (unfolded l.rules.timing (take l.i l.found))
