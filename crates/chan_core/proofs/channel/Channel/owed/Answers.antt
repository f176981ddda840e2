use Rattle.std.proofs.Common.{rules}
use Rattle.chan_core.proofs.channel.Channel.owed.Goals as goal

pub returns : goal.returns
returns c = search rules
