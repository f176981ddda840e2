use Rattle.std.proofs.Common.{◌<◌, ◌^◌, length, subst, sym}
use Rattle.save_device.specs.Device.{Moment}
use Rattle.save_device.specs.Memory.{state_of}
use Rattle.file_device.proofs.Backing.{backs_same, marks_same}
use Rattle.file_device.proofs.device.FileDeviceSaveDevice.read.Goals as goal

pub invariant_of-self : goal.invariant_of-self
invariant_of-self g c =
    let m = c.args.self.now in let r = c.read-result in
    record {
      fits = subst (λ (moment : Moment). length moment.bytes < 2 ^ 64) (sym r.ensures.same) m.fits;
      marked = marks_same m.unsettled.flags.items (state_of m.mirror) (state_of r.new.self) r.ensures.same m.marked;
      backed = λ kept is. backs_same (state_of m.mirror) (state_of r.new.self) m.is_behind kept r.ensures.same (m.backed kept is);
    }
