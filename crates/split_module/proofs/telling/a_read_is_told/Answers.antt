-- A read that its channel answers.
use Rattle.split_module.proofs.GivenTo.{got_told}
use Rattle.split_module.proofs.telling.a_read_is_told.Goals as goal

pub returns : goal.returns
returns c = λ setup m logs channel log bytes line at got waits are of. got_told setup m logs are channel log of bytes line at waits got
