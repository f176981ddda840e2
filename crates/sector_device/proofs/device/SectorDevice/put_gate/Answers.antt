use Rattle.std.proofs.Common.{◌+◌, ℕ, [], ◌∷◌, arith, subst, sym}
use Rattle.save_device.specs.Device.{present}
use Rattle.save_device.specs.Memory.{state_of}
use Rattle.file_device.specs.Kept.{BothKept}
use Rattle.sector_device.specs.declared.device.Gate.{Gate}
use Rattle.sector_device.specs.declared.device.Gate.TheVariants.{Ajar}
use Rattle.sector_device.specs.Sectors.{PutsDurably}
use Rattle.sector_device.specs.Backing.{StandsWithin}
use Rattle.sector_device.proofs.Steps.{gate_within}
use Rattle.sector_device.proofs.device.SectorDevice.put_gate.Goals as goal

pub put_durably-requires-clause-fits : goal.put_durably-requires-clause-fits
put_durably-requires-clause-fits g c = λ kept is.
    let long = ((c.args.self.now.backed kept is).ajar c.requires).size in omega (arith, long, c.len-size.ensures)

pub put_durably-requires-clause-within : goal.put_durably-requires-clause-within
put_durably-requires-clause-within g c = λ kept is.
    let m = c.args.self.now in let moment = present (state_of m.mirror) in
    subst (λ (gate : Gate). StandsWithin gate moment (c.len-size.result + 1024) 1 kept) (sym c.requires)
    (subst (λ (size : ℕ). StandsWithin Ajar moment (size + 1024) 1 kept) (sym c.len-size.ensures) (gate_within moment m.sectors kept ((m.backed kept is).ajar c.requires)))

pub returns-clause-puts : goal.returns-clause-puts
returns-clause-puts g c =
    let K = g.F.SectorFile in
    subst (λ (size : ℕ). BothKept (PutsDurably (size + 1024) (c.args.gate ∷ []) c.put_durably.result) (K.kept c.args.self.now.file) (K.kept c.put_durably.new.self.file)) c.len-size.ensures c.put_durably.ensures.puts
