-- What an honest gauge is enough for in the calls of a module.
use Rattle.module_core.proofs.HonestCalls.{faultless_spared, honest_calls, honest_life, honest_loss, unarmed_module}
use Rattle.module_core.proofs.turns.honest_modules.Goals as goal

pub returns-clause-calls : goal.returns-clause-calls
returns-clause-calls g c = honest_calls g.K.ChannelPort

pub returns-clause-lives : goal.returns-clause-lives
returns-clause-lives g c = honest_life g.K.ChannelPort

pub returns-clause-faultless : goal.returns-clause-faultless
returns-clause-faultless g c = faultless_spared g.K.ChannelPort

pub returns-clause-unarmed : goal.returns-clause-unarmed
returns-clause-unarmed g c = unarmed_module g.K.ChannelPort

pub returns-clause-loss : goal.returns-clause-loss
returns-clause-loss g c = honest_loss g.K.ChannelPort
