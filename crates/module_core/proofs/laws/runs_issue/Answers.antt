use Rattle.module_core.proofs.IssuedRuns as issued
use Rattle.module_core.proofs.laws.runs_issue.Goals as goal

pub returns : goal.returns
returns g c = issued.runs_issue g.K.ChannelPort
