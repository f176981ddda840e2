use Rattle.module_journal.proofs.Storing.{told_behind, told_within}
use Rattle.module_journal.proofs.laws.stored_records_are_told.Goals as goal

pub returns-clause-ends : goal.returns-clause-ends
returns-clause-ends g c = λ found image log before later bytes appended first now mark left has so held allowed upto stored may.
    told_behind g.K.ChannelPort found image log before bytes appended has later first now so held allowed mark upto stored left may

pub returns-clause-within : goal.returns-clause-within
returns-clause-within g c = λ found image log before later bytes appended first now next event reply mark left has so held allowed upto stored answers may.
    told_within g.K.ChannelPort found image log before bytes appended has later first now so held allowed mark upto stored event reply next answers left may
