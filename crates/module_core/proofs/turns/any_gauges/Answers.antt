-- A life whose calls were handed whatever gauges.
use Rattle.module_core.proofs.AnyGauges.{begins_by_any, calls_by_any, other_gauge, survives_by_any}
use Rattle.module_core.proofs.turns.any_gauges.Goals as goal

pub returns-clause-begins : goal.returns-clause-begins
returns-clause-begins g c = begins_by_any g.K.ChannelPort

pub returns-clause-calls : goal.returns-clause-calls
returns-clause-calls g c = calls_by_any g.K.ChannelPort

pub returns-clause-gauges : goal.returns-clause-gauges
returns-clause-gauges g c = other_gauge g.K.ChannelPort

pub returns-clause-survives : goal.returns-clause-survives
returns-clause-survives g c = survives_by_any g.K.ChannelPort
