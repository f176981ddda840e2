use Rattle.std.proofs.Common.{arith, length, subst, sym}
use Rattle.save_device.specs.Device.{present}
use Rattle.save_device.specs.Memory.{state_of}
use Rattle.file_device.proofs.Backing.{marks_on}
use Rattle.sector_device.specs.Backing.{HasSectors}
use Rattle.sector_device.proofs.Steps.{stands_on}
use Rattle.sector_device.proofs.device.SectorDeviceSaveDevice.write_at.Goals as goal

pub invariant_of-self : goal.invariant_of-self
invariant_of-self g c =
    let m = c.args.self.now in let w = c.write_at in let differs = w.ensures.makes.outside in
    record {
      fits = omega (arith, differs.size, m.fits);
      room = omega (arith, differs.size, m.room);
      sectors = subst HasSectors (sym differs.size) m.sectors;
      marked = marks_on m.unsettled.flags.items c.add.new.self.flags.items (state_of m.mirror) (state_of w.new.self) c.args.at (length c.args.bytes.now) differs.size w.ensures.unsettled c.add.ensures m.marked;
      inside = λ number is. let inside = m.inside number is in omega (arith, inside, differs.size);
      backed = λ kept is. stands_on m.gate (present (state_of m.mirror)) (present (state_of w.new.self)) c.args.at (length c.args.bytes.now) kept differs (λ place. (w.ensures.unsettled place).1) (m.backed kept is);
    }
