use Rattle.std.proofs.Common.{ap, is_some}
use Rattle.command_trace.proofs.foreign.number_in.Goals as goal

pub returns-in-None-2-clause-none : goal.returns-in-None-2-clause-none
returns-in-None-2-clause-none c = c.number.ensures.none (ap is_some c.in-None-2.is)

pub returns-in-None-3-clause-none : goal.returns-in-None-3-clause-none
returns-in-None-3-clause-none c = c.number.ensures.none (ap is_some c.in-None-3.is)
