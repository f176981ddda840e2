use Rattle.std.specs.Prelude.{is_ok}
use Rattle.save_device.specs.Device.{present}
use Rattle.save_device.specs.Memory.{state_of}
use Rattle.file_device.proofs.Backing.{kept_on}
use Rattle.sector_device.specs.Backing.{Stands}
use Rattle.sector_device.proofs.Steps.{stands_flushed}
use Rattle.sector_device.proofs.device.SectorDevice.flush.Goals as goal

pub invariant_of-self : goal.invariant_of-self
invariant_of-self g c =
    let m = c.args.self.now in let K = g.F.SectorFile in let moment = present (state_of m.mirror) in
    record {
      fits = m.fits;
      room = m.room;
      sectors = m.sectors;
      marked = m.marked;
      inside = m.inside;
      backed = kept_on {A = Stands m.gate moment} (K.kept m.file) (K.kept c.flush.new.self) c.flush.ensures
          (λ kept next flushes stands. stands_flushed m.gate moment (is_ok c.flush.result) kept next flushes stands) m.backed;
    }
