-- Calls of a module in turn.
use Rattle.module_core.proofs.CallsInTurn.{answered_none, answered_on, calls_in_turn, cuts_in_turn, goes_on_in_turn, rests_in_turn}
use Rattle.module_core.proofs.turns.calls_in_turn.Goals as goal

pub returns-clause-rests : goal.returns-clause-rests
returns-clause-rests g c = rests_in_turn g.K.ChannelPort

pub returns-clause-cuts : goal.returns-clause-cuts
returns-clause-cuts g c = cuts_in_turn g.K.ChannelPort

pub returns-clause-calls : goal.returns-clause-calls
returns-clause-calls g c = calls_in_turn g.K.ChannelPort

pub returns-clause-goes_on : goal.returns-clause-goes_on
returns-clause-goes_on g c = goes_on_in_turn g.K.ChannelPort

pub returns-clause-begins : goal.returns-clause-begins
returns-clause-begins g c = answered_none g.K.ChannelPort

pub returns-clause-lives : goal.returns-clause-lives
returns-clause-lives g c = answered_on g.K.ChannelPort
