use Rattle.command_trace.proofs.trace_check.TraceCheck.line.Goals as goal

pub returns-clause-none : goal.returns-clause-none
returns-clause-none c checked all = c.line.ensures.none checked _ (all c.args.channel _ c.requires)

pub returns-clause-first : goal.returns-clause-first
returns-clause-first c checked all = c.line.ensures.first checked _ (all c.args.channel _ c.requires)
