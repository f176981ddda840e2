-- What the logs of all channels tell of what waits.
use Rattle.split_module.proofs.ToldOf.{credits_told, full_of_reads_told, full_told, held_told}
use Rattle.split_module.proofs.telling.logs_tell_what_waits.Goals as goal

pub returns-clause-writes : goal.returns-clause-writes
returns-clause-writes c = λ setup m logs channel are. full_told setup m logs are channel

pub returns-clause-reads : goal.returns-clause-reads
returns-clause-reads c = λ setup m logs channel are. full_of_reads_told setup m logs are channel

pub returns-clause-credits : goal.returns-clause-credits
returns-clause-credits c = λ setup m logs are. credits_told setup m logs are

pub returns-clause-held : goal.returns-clause-held
returns-clause-held c = λ setup m logs n are. held_told setup m logs are n
