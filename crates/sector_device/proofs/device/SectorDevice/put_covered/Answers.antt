use Rattle.std.proofs.Common.{◌*◌, ◌+◌, true}
use Rattle.save_device.specs.Device.{present}
use Rattle.save_device.specs.Memory.{state_of}
use Rattle.sector_device.specs.Backing.{PutsBelow}
use Rattle.sector_device.proofs.Steps.{below_more, both_same}
use Rattle.sector_device.proofs.device.SectorDevice.put_covered.Goals as goal

pub returns-then-not-touches-clause-put : goal.returns-then-not-touches-clause-put
returns-then-not-touches-clause-put g c =
    let m = c.args.self.now in let K = g.F.SectorFile in let moment = present (state_of m.mirror) in let at = 512 * c.args.number in
    both_same (PutsBelow at (at + 512) moment true) (K.kept m.file)
    (λ kept _ below. below_more moment m.sectors at kept (λ place w up. c.touches.ensures c.if-not-touches.true place w (m.marked.all place up)) below)
