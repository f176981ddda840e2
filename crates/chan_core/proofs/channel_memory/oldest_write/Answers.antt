use Rattle.std.proofs.Common.{arith}
use Rattle.std.proofs.lemmas.Grind.{common_steps}
use Rattle.chan_core.proofs.channel_memory.oldest_write.Goals as goal

pub loop-p-preserved : goal.loop-p-preserved
loop-p-preserved c = grind (arith, common_steps)
