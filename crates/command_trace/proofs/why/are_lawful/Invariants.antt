use Rattle.std.proofs.Common.{take}
use Rattle.auto_precharge.specs.Unfolding.{IsLawfulTrace, Stands, unfolded}
use Rattle.command_trace.proofs.why.are_lawful.Given as goal

abbrev pub invariant-loop-next : goal.invariant-loop-next
invariant-loop-next l = record {
  lawful : IsLawfulTrace l.rules (take l.next-index l.found);
  stands : Stands l.rules l.behind (unfolded l.rules.timing (take l.next-index l.found));
}
