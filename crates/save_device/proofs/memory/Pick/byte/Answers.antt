use Rattle.std.proofs.Common.{ap, sym}
use Rattle.save_device.specs.declared.memory.Pick.{Pick}
use Rattle.save_device.specs.Pick.{picked}
use Rattle.save_device.proofs.memory.Pick.byte.Goals as goal

pub returns-in-Torn : goal.returns-in-Torn
returns-in-Torn c = ap (λ (pick : Pick). picked pick c.args.settled c.args.now) (sym c.in-Torn.is)
