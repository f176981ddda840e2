use Rattle.all_faults.proofs.FaultLemmas.{far_keeps}
use Rattle.all_faults.proofs.faults.pair_fault.Goals as goal

pub loop-i-init : goal.loop-i-init
loop-i-init c = far_keeps c.args.c.now c.args.before.now c.args.from c.args.x.now c.args.rule c.requires.far
