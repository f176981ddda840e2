use Rattle.ddr4_port.proofs.Beginning.{AreFilled}
use Rattle.ddr4_port.proofs.making.channels_with_memory.Given as goal

abbrev pub invariant-loop-line : goal.invariant-loop-line
invariant-loop-line g l = AreFilled (g.M.LineMap.place_of l.map) l.checked l.depth l.reads l.memory l.line l.ports.items
