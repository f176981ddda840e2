-- What an honest gauge is enough for.
use Rattle.nv_machine.proofs.Backing.{not_backed}
use Rattle.nv_machine.proofs.CountedFaults.{honest_ends}
use Rattle.nv_machine.proofs.HonestRuns.{backed_along, saved_along}
use Rattle.nv_machine.proofs.SparedDevices.{spared_ends, spared_on, unarmed_spared}
use Rattle.nv_machine.proofs.honesty.honest_run.Goals as goal

pub returns-clause-backed : goal.returns-clause-backed
returns-clause-backed c = backed_along

pub returns-clause-saved : goal.returns-clause-saved
returns-clause-saved c = saved_along

pub returns-clause-ends : goal.returns-clause-ends
returns-clause-ends c = honest_ends

pub returns-clause-spared : goal.returns-clause-spared
returns-clause-spared c = spared_ends

pub returns-clause-unarmed : goal.returns-clause-unarmed
returns-clause-unarmed c = unarmed_spared

pub returns-clause-on : goal.returns-clause-on
returns-clause-on c = spared_on

pub returns-clause-begins : goal.returns-clause-begins
returns-clause-begins c = not_backed
