use Rattle.std.proofs.Common.{length, true}
use Rattle.std.specs.Prelude.{is_ok}
use Rattle.save_device.specs.Device.{present}
use Rattle.save_device.specs.Memory.{state_of}
use Rattle.file_device.proofs.Backing.{kept_on}
use Rattle.sector_device.specs.Backing.{StandsWithin}
use Rattle.sector_device.proofs.Steps.{keeps_less, put_keeps, within_left}
use Rattle.sector_device.proofs.device.SectorDevice.put.Goals as goal

pub invariant_of-self : goal.invariant_of-self
invariant_of-self g c =
    let m = c.args.self.now in let K = g.F.SectorFile in let moment = present (state_of m.mirror) in let at = c.args.at in let bytes = c.args.bytes.now in
    record {
      fits = m.fits;
      room = m.room;
      sectors = m.sectors;
      marked = m.marked;
      inside = m.inside;
      backed = kept_on {A = StandsWithin m.gate moment at (length bytes)} (K.kept m.file) (K.kept c.put.new.self) c.put.ensures
          (λ kept next puts within. within next (keeps_less at (length bytes) true kept next (put_keeps at bytes (is_ok c.put.result) kept next puts))) c.requires.within;
    }

pub returns-clause-left : goal.returns-clause-left
returns-clause-left g c = λ kept is.
    let m = c.args.self.now in
    within_left m.gate (present (state_of m.mirror)) c.args.at (length c.args.bytes.now) kept m.sectors (c.requires.within kept is)
