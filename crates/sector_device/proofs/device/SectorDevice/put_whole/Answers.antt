use Rattle.std.proofs.Common.{◌+◌, Bool, arith, subst, sym}
use Rattle.std.specs.Prelude.{slice_range}
use Rattle.save_device.specs.Device.{present}
use Rattle.save_device.specs.Memory.{state_of}
use Rattle.sector_device.specs.declared.device.Gate.{Gate}
use Rattle.sector_device.specs.Sectors.{PutsSectors}
use Rattle.sector_device.specs.Backing.{IsShut, StandsWithin}
use Rattle.sector_device.proofs.Steps.{below_put, both_so, whole_within}
use Rattle.sector_device.proofs.device.SectorDevice.put_whole.Goals as goal

pub put_own-requires-clause-within : goal.put_own-requires-clause-within
put_own-requires-clause-within g c = λ kept is.
    let m = c.args.self.now in let moment = present (state_of m.mirror) in
    subst (λ (gate : Gate). StandsWithin gate moment c.args.at c.args.n kept) (sym c.requires.shut)
    (whole_within moment m.sectors c.args.at c.args.n kept c.requires.from c.requires.sectors c.requires.fits c.requires.unsettled ((m.backed kept is).shut c.requires.shut))

pub returns-clause-put : goal.returns-clause-put
returns-clause-put g c =
    let m = c.args.self.now in let r = c.put_own in let K = g.F.SectorFile in let moment = present (state_of m.mirror) in let at = c.args.at in let n = c.args.n in
    both_so {A = IsShut moment} (K.kept m.file) (K.kept r.new.self.file) r.ensures.puts
    (λ kept next shut puts good below. below_put moment m.sectors at n kept next c.requires.from c.requires.sectors c.requires.fits (omega (arith, shut.size))
    (subst (λ (b : Bool). PutsSectors at (slice_range (state_of m.mirror).bytes at (at + n)) b kept next) good puts) below)
    (λ kept is. (m.backed kept is).shut c.requires.shut)
