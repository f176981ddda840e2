use Rattle.std.proofs.Common.{arith}
use Rattle.save_device.proofs.memory.MemoryDeviceSaveDevice.len.Goals as goal

pub returns : goal.returns
returns c = omega (arith, c.len.ensures, c.args.self.now.content.bytes.ok.0)
