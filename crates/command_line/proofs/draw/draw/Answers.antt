use Rattle.std.proofs.Common.{refl}
use Rattle.command_line.proofs.draw.draw.Goals as goal

pub returns : goal.returns
returns g c = (refl, (c.in_ok-schedule.schedule, c.in_ok-schedule.ensures))
