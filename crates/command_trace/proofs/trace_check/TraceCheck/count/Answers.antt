use Rattle.command_trace.proofs.trace_check.TraceCheck.count.Goals as goal

pub returns : goal.returns
returns c checked all = c.count.ensures checked _ (all c.args.channel _ c.requires)
