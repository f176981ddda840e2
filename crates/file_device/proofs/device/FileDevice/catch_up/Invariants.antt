use Rattle.std.proofs.Common.{◌≡◌, ◌-◌, length, true}
use Rattle.save_device.specs.Device.{present}
use Rattle.save_device.specs.Memory.{state_of}
use Rattle.file_device.specs.Kept.{IfKept}
use Rattle.file_device.proofs.Backing.{IsCaughtUpBelow}
use Rattle.file_device.proofs.device.FileDevice.catch_up.Given as goal

abbrev pub invariant-loop-at : goal.invariant-loop-at
invariant-loop-at g l = record {
  same : present (state_of l.self.mirror) ≡ present (state_of l.initial.self.mirror);
  earlier : (state_of l.self.mirror).earlier ≡ (state_of l.initial.self.mirror).earlier;
  calls : l.self.calls ≡ l.initial.self.calls;
  places : l.self.unsettled ≡ l.initial.self.unsettled;
  behind : l.self.is_behind ≡ true;
  done : IfKept (IsCaughtUpBelow l.at (state_of l.self.mirror)) (g.F.DiskFile.kept l.self.file);
}

abbrev pub decreases-loop-at : goal.decreases-loop-at
decreases-loop-at g l = length l.initial.self.unsettled.flags.items - l.at
