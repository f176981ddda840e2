use Rattle.script_runner.proofs.Issued.{tells_its_lists}
use Rattle.script_runner.proofs.Lawful.{tells_lawfully}
use Rattle.script_runner.proofs.laws.scripts_tell_lists.Goals as goal

pub returns-clause-lists : goal.returns-clause-lists
returns-clause-lists g c = tells_its_lists

pub returns-clause-lawful : goal.returns-clause-lawful
returns-clause-lawful g c = tells_lawfully
