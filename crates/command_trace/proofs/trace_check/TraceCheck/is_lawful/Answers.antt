use Rattle.command_trace.proofs.trace_check.TraceCheck.is_lawful.Goals as goal

pub returns : goal.returns
returns c all = c.is_lawful.ensures c.args.rules.now _ (all c.args.channel _ c.requires)
