use Rattle.std.proofs.Common.{List}
use Rattle.nv_machine.specs.Lives.{Lived}
use Rattle.journal_log.specs.Log.{Log}
use Rattle.journal_log.specs.Calls.{Attempt}
use Rattle.journal_lives.proofs.Keeping.{life_keeps, lives_keep}
use Rattle.journal_lives.proofs.survival.journals_survive_any_stop.Goals as goal

pub returns-clause-life : goal.returns-clause-life
returns-clause-life c = life_keeps

pub returns-clause-lives : goal.returns-clause-lives
returns-clause-lives c = λ (life : Lived) (lives : List Lived) (log : Log) (attempts : List (List Attempt)). lives_keep lives life log attempts
