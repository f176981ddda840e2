use Rattle.module_core.specs.Stands.{setup_of}
use Rattle.journal_reads.specs.Reading.{IsNotRead, ReadsRecord}
use Rattle.journal_reads.proofs.Living.{goes_on, record_read}
use Rattle.journal_reads.proofs.laws.journals_are_read.Goals as goal

pub returns-clause-record : goal.returns-clause-record
returns-clause-record g c = λ found image log attempts index number bytes first old new so held allowed is sized comes.
    record_read g.K.ChannelPort found image log attempts first old so index number bytes new held allowed is sized comes

pub returns-clause-read : goal.returns-clause-read
returns-clause-read g c = λ found image log attempts index number bytes first old new so comes same.
    goes_on g.K.ChannelPort found image log attempts first old so (ReadsRecord index number bytes) new comes (λ es rs n l told. told.same) same

pub returns-clause-not_read : goal.returns-clause-not_read
returns-clause-not_read g c = λ found image log attempts reason first old new so comes same.
    goes_on g.K.ChannelPort found image log attempts first old so (IsNotRead (setup_of g.K.ChannelPort old.it) reason) new comes (λ es rs n l told. told.same) same
