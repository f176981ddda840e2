use Rattle.std.proofs.Common.{refl}
use Rattle.board_hosts.proofs.saver.needs_save.Goals as goal

pub returns-in-Stranded : goal.returns-in-Stranded
returns-in-Stranded c = rw c.in-Stranded.is refl
