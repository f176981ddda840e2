-- What an accepted write makes of what the logs tell.
use Rattle.split_module.proofs.GivenTo.{logs_wrote, puts_told}
use Rattle.split_module.proofs.telling.a_write_is_told.Goals as goal

pub returns-clause-puts : goal.returns-clause-puts
returns-clause-puts c = λ setup m logs channel log write are of. puts_told setup m logs are channel log of write

pub returns-clause-logs : goal.returns-clause-logs
returns-clause-logs c = λ setup m logs channel log write are of. logs_wrote setup m logs are channel log of write
