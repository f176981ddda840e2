use Rattle.std.proofs.Common.{arith}
use Rattle.std.proofs.lemmas.Grind.{common_steps}
use Rattle.chan_core.proofs.channel.Channel.stored_at.Goals as goal

pub returns : goal.returns
returns c = grind (arith, common_steps)
