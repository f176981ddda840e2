use Rattle.std.specs.Process.{exit_status}
use Rattle.command_trace.specs.Channels.{AreLawful}
use Rattle.command_line.proofs.Statuses.{status_tells}
use Rattle.command_line.proofs.check.verdict.Goals as goal

pub returns-clause-status : goal.returns-clause-status
returns-clause-status c all =
    status_tells (AreLawful c.args.rules.now c.args.check.now) (exit_status c.status_by.result) c.are_lawful.result c.status_by.ensures (c.are_lawful.ensures all)
