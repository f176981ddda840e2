use Rattle.std.proofs.Common.{◌≡◌, ◌+◌, ◌*◌, ◌-◌}
use Rattle.save_device.specs.Device.{present}
use Rattle.live_store.specs.Starts.{HasZeros}
use Rattle.live_store.proofs.unused.is_unused.Given as goal

abbrev pub invariant-loop-page : goal.invariant-loop-page
invariant-loop-page g l = record {
  same : present (g.D.SaveDevice.state l.device) ≡ present (g.D.SaveDevice.state l.initial.device);
  zeros : HasZeros (l.slot + 1) (4096 * l.page - 1) (g.D.SaveDevice.state l.initial.device).bytes;
}
