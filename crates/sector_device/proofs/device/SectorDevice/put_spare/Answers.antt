use Rattle.std.proofs.Common.{◌≡◌, ◌∙◌, ◌++◌, ℕ, List, ap, arith, length, subst, sym}
use Rattle.std.specs.Int.{w64, to_le_bytes}
use Rattle.save_device.specs.Device.{present}
use Rattle.save_device.specs.Memory.{state_of}
use Rattle.sector_device.specs.declared.device.Gate.{Gate}
use Rattle.sector_device.specs.declared.device.Gate.TheVariants.{Shut}
use Rattle.sector_device.specs.Backing.{StandsWithin}
use Rattle.sector_device.proofs.Steps.{spare_long, spare_within, stands_size}
use Rattle.sector_device.proofs.device.SectorDevice.put_spare.Goals as goal

pub put_durably-requires-clause-fits : goal.put_durably-requires-clause-fits
put_durably-requires-clause-fits g c =
    let m = c.args.self.now in let s = c.sector-sector.new.self in let number = c.args.number in
    let long : length c.spare_bytes-spare.result ≡ 520 = ap length (c.spare_bytes-spare.ensures ∙ ap (λ (part : List ℕ). part ++ to_le_bytes w64 number) c.sector-sector.ensures.is) ∙ spare_long (present (state_of m.mirror)) m.sectors number c.requires.inside in
    λ kept is. let size = stands_size s.gate (present (state_of s.mirror)) kept (s.backed kept is) in omega (arith, long, size, c.len-size.ensures)

pub put_durably-requires-clause-within : goal.put_durably-requires-clause-within
put_durably-requires-clause-within g c =
    let m = c.args.self.now in let s = c.sector-sector.new.self in let number = c.args.number in let moment = present (state_of s.mirror) in
    let long : length c.spare_bytes-spare.result ≡ 520 = ap length (c.spare_bytes-spare.ensures ∙ ap (λ (part : List ℕ). part ++ to_le_bytes w64 number) c.sector-sector.ensures.is) ∙ spare_long (present (state_of m.mirror)) m.sectors number c.requires.inside in
    let shut : s.gate ≡ Shut = c.sector-sector.ensures.gate ∙ c.requires.shut in
    λ kept is. subst (λ (gate : Gate). StandsWithin gate moment c.len-size.result (length c.spare_bytes-spare.result) kept) (sym shut)
    (subst (λ (n : ℕ). StandsWithin Shut moment c.len-size.result n kept) (sym long)
    (subst (λ (at : ℕ). StandsWithin Shut moment at 520 kept) (sym c.len-size.ensures) (spare_within moment s.sectors kept ((s.backed kept is).shut shut))))
