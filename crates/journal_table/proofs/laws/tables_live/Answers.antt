use Rattle.journal_table.proofs.Living.{table_ends, table_ends_anywhere, table_told, tabled, tabled_by_others, tabled_on, tabled_one}
use Rattle.journal_table.proofs.laws.tables_live.Goals as goal

pub returns-clause-begins : goal.returns-clause-begins
returns-clause-begins g c = tabled g.K.ChannelPort

pub returns-clause-calls : goal.returns-clause-calls
returns-clause-calls g c = tabled_one g.K.ChannelPort

pub returns-clause-upkeep : goal.returns-clause-upkeep
returns-clause-upkeep g c = λ found image log table attempts more first index old new device gauge so called.
    tabled_on g.K.ChannelPort found image log table attempts more first old new device gauge so (called.written device gauge) called.allowed called.lawful

pub returns-clause-others : goal.returns-clause-others
returns-clause-others g c = tabled_by_others g.K.ChannelPort

pub returns-clause-ends : goal.returns-clause-ends
returns-clause-ends g c = table_ends g.K.ChannelPort

pub returns-clause-anywhere : goal.returns-clause-anywhere
returns-clause-anywhere g c = table_ends_anywhere g.K.ChannelPort

pub returns-clause-told : goal.returns-clause-told
returns-clause-told g c = table_told g.K.ChannelPort
