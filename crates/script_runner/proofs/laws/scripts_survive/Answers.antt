-- The lives of a script.
use Rattle.script_runner.proofs.Chains.{lives_in_chain}
use Rattle.script_runner.proofs.laws.scripts_survive.Goals as goal

pub returns : goal.returns
returns g c = lives_in_chain
