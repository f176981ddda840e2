use Rattle.std.proofs.Common.{◌≡◌, ◌∙◌, ◌+◌, ◌<◌, ◌^◌, ℕ, List, false, true, arith, length, subst, sym}
use Rattle.std.specs.Prelude.{slice_range}
use Rattle.save_device.specs.Device.{Moment, present}
use Rattle.save_device.specs.Memory.{state_of}
use Rattle.file_device.proofs.Backing.{kept_on, marks_same}
use Rattle.sector_device.specs.Sectors.{KeepsOthers}
use Rattle.sector_device.specs.Backing.{HasSectors, IsForSector, Stands, StandsWithin}
use Rattle.sector_device.proofs.Finding.{length-part}
use Rattle.sector_device.proofs.Steps.{keeps_less, put_keeps, stands_size, within_left}
use Rattle.sector_device.proofs.device.SectorDevice.put_own.Goals as goal

pub copy_out-requires-clause-file_fits : goal.copy_out-requires-clause-file_fits
copy_out-requires-clause-file_fits g c = λ kept is.
    let m = c.args.self.now in let long = stands_size m.gate (present (state_of m.mirror)) kept (m.backed kept is) in omega (arith, long, c.requires.fits)

pub invariant_of-self : goal.invariant_of-self
invariant_of-self g c =
    let m = c.args.self.now in let r = c.copy_out in let K = g.F.SectorFile in let moment = present (state_of m.mirror) in let at = c.args.at in let n = c.args.n in
    let part : List ℕ = slice_range (state_of m.mirror).bytes at (at + n) in
    let long : length part ≡ n = length-part (state_of m.mirror).bytes at (at + n) c.requires.fits ∙ omega arith in
    record {
      fits = subst (λ (moment : Moment). length moment.bytes < 2 ^ 64) (sym r.ensures.same) m.fits;
      room = subst (λ (moment : Moment). length moment.bytes + 1536 < 2 ^ 64) (sym r.ensures.same) m.room;
      sectors = subst (λ (moment : Moment). HasSectors (length moment.bytes)) (sym r.ensures.same) m.sectors;
      marked = marks_same m.unsettled.flags.items (state_of m.mirror) (state_of r.new.mirror) r.ensures.same m.marked;
      inside = subst (λ (moment : Moment). IsForSector m.gate (length moment.bytes)) (sym r.ensures.same) m.inside;
      backed = λ kept is. subst (λ (moment : Moment). Stands m.gate moment kept) (sym r.ensures.same)
          (kept_on {A = StandsWithin m.gate moment at n} (K.kept m.file) (K.kept r.new.file) r.ensures.puts
          (λ was next puts within. within next (subst (λ (k : ℕ). KeepsOthers at k false was next) long (keeps_less at (length part) true was next (put_keeps at part r.result was next puts)))) c.requires.within kept is);
    }

pub returns-clause-left : goal.returns-clause-left
returns-clause-left g c = λ kept is.
    let m = c.args.self.now in
    within_left m.gate (present (state_of m.mirror)) c.args.at c.args.n kept m.sectors (c.requires.within kept is)
