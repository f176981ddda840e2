-- What the logs of all channels tell of a life.
use Rattle.std.proofs.Common.{arith}
use Rattle.split_module.proofs.ToldOf.{line_told, told_never, told_once}
use Rattle.split_module.proofs.telling.logs_tell_the_history.Goals as goal

pub returns-clause-once : goal.returns-clause-once
returns-clause-once c = λ setup m logs number are. told_once setup m logs are number

pub returns-clause-never : goal.returns-clause-never
returns-clause-never c = λ setup m logs number are. told_never setup m logs are number

pub returns-clause-line : goal.returns-clause-line
returns-clause-line c = λ setup m logs n line are less. line_told setup m logs are n line (let enough = are.enough in omega (arith, less, enough))
