use Rattle.std.proofs.Common.{◌≡◌, ◌-◌, ◌*◌, ◌≤◌, length}
use Rattle.save_device.specs.Device.{present}
use Rattle.save_device.specs.Memory.{state_of}
use Rattle.file_device.specs.Kept.{IfKept}
use Rattle.sector_device.specs.declared.device.Gate.TheVariants.{Shut}
use Rattle.sector_device.specs.Backing.{IsPutBelow}
use Rattle.sector_device.proofs.device.SectorDevice.write_out.Given as goal

abbrev pub invariant-loop-number : goal.invariant-loop-number
invariant-loop-number g l = record {
  inside : 512 * l.number ≤ length (state_of l.self.mirror).bytes;
  same : present (state_of l.self.mirror) ≡ present (state_of l.initial.self.mirror);
  earlier : (state_of l.self.mirror).earlier ≡ (state_of l.initial.self.mirror).earlier;
  calls : l.self.calls ≡ l.initial.self.calls;
  places : l.self.unsettled ≡ l.initial.self.unsettled;
  gate : l.self.gate ≡ Shut;
  put : IfKept (IsPutBelow (512 * l.number) (present (state_of l.self.mirror))) (g.F.SectorFile.kept l.self.file);
}

abbrev pub decreases-loop-number : goal.decreases-loop-number
decreases-loop-number g l = length l.initial.self.unsettled.flags.items - 512 * l.number
