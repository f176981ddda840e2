use Rattle.module_core.proofs.ModulesLive.{lives_after, lives_anywhere, lives_within}
use Rattle.module_core.proofs.laws.modules_live.Goals as goal

pub returns-clause-after : goal.returns-clause-after
returns-clause-after g c = lives_after g.K.ChannelPort

pub returns-clause-within : goal.returns-clause-within
returns-clause-within g c = lives_within g.K.ChannelPort

pub returns-clause-anywhere : goal.returns-clause-anywhere
returns-clause-anywhere g c = lives_anywhere g.K.ChannelPort
