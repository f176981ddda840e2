use Rattle.std.proofs.Common.{◌+◌, ◌<◌, ◌^◌, length, subst, sym}
use Rattle.save_device.specs.Device.{Moment}
use Rattle.save_device.specs.Memory.{state_of}
use Rattle.file_device.proofs.Backing.{marks_same}
use Rattle.sector_device.specs.Backing.{HasSectors, IsForSector, Stands}
use Rattle.sector_device.proofs.device.SectorDevice.sector.Goals as goal

pub invariant_of-self : goal.invariant_of-self
invariant_of-self g c =
    let m = c.args.self.now in let r = c.read-done in
    record {
      fits = subst (λ (moment : Moment). length moment.bytes < 2 ^ 64) (sym r.ensures.same) m.fits;
      room = subst (λ (moment : Moment). length moment.bytes + 1536 < 2 ^ 64) (sym r.ensures.same) m.room;
      sectors = subst (λ (moment : Moment). HasSectors (length moment.bytes)) (sym r.ensures.same) m.sectors;
      marked = marks_same m.unsettled.flags.items (state_of m.mirror) (state_of r.new.self) r.ensures.same m.marked;
      inside = subst (λ (moment : Moment). IsForSector m.gate (length moment.bytes)) (sym r.ensures.same) m.inside;
      backed = λ kept is. subst (λ (moment : Moment). Stands m.gate moment kept) (sym r.ensures.same) (m.backed kept is);
    }
