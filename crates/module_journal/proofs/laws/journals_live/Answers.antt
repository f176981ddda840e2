use Rattle.module_journal.proofs.Living.{begun, ended, ended_anywhere, went_on, went_on_by_others}
use Rattle.module_journal.proofs.laws.journals_live.Goals as goal

pub returns-clause-begins : goal.returns-clause-begins
returns-clause-begins g c = begun g.K.ChannelPort

pub returns-clause-calls : goal.returns-clause-calls
returns-clause-calls g c = went_on g.K.ChannelPort

pub returns-clause-others : goal.returns-clause-others
returns-clause-others g c = went_on_by_others g.K.ChannelPort

pub returns-clause-ends : goal.returns-clause-ends
returns-clause-ends g c = ended g.K.ChannelPort

pub returns-clause-anywhere : goal.returns-clause-anywhere
returns-clause-anywhere g c = ended_anywhere g.K.ChannelPort
