use Rattle.std.proofs.Common.{arith}
use Rattle.save_device.proofs.fuse.FuseSaveDevice.sync.Goals as goal

pub returns-then-self-eq0-clause-left : goal.returns-then-self-eq0-clause-left
returns-then-self-eq0-clause-left g c = omega (arith, c.if-self-eq0.true)
