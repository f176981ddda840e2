-- Each open read of a life has its line.
use Rattle.split_module.proofs.ReadLines.{lived_has, logs_have}
use Rattle.split_module.proofs.reads.reads_have_their_lines.Goals as goal

pub returns-clause-machine : goal.returns-clause-machine
returns-clause-machine c = lived_has

pub returns-clause-logs : goal.returns-clause-logs
returns-clause-logs c = logs_have
