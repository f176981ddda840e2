use Rattle.ddr4_port.specs.Port.{AreLawful}
use Rattle.ddr4_port.proofs.rules.keep_rules.Given as goal

abbrev pub invariant-loop-number : goal.invariant-loop-number
invariant-loop-number g l = AreLawful l.number l.channels.terms.checked l.channels.ports.items
