use Rattle.std.proofs.Common.{ap, is_some}
use Rattle.command_trace.proofs.foreign.channel_in.Goals as goal

pub returns-in-None-clause-none : goal.returns-in-None-clause-none
returns-in-None-clause-none c = c.channel.ensures.missing (ap is_some c.in-None.is)
