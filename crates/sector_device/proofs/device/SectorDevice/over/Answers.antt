use Rattle.std.proofs.Common.{◌≡◌, ◌∙◌, ◌+◌, ◌*◌, ◌≤◌, true, false, ℕ, List, Option, ap, arith, length, subst, sym}
use Rattle.std.specs.Prelude.{IfSome, IsNone, IsTrue}
use Rattle.save_device.specs.Device.{Moment, present}
use Rattle.save_device.specs.Memory.{state_of}
use Rattle.file_device.specs.Kept.{Kept, IfKept, IsAtRest}
use Rattle.file_device.proofs.Backing.{marks_none}
use Rattle.sector_device.specs.Backing.{HasSectors, IsForSector, IsFoundGate}
use Rattle.sector_device.specs.Spare.{found_in, is_open, spare_number}
use Rattle.sector_device.proofs.Found.{found_sector, opened_stands}
use Rattle.sector_device.proofs.device.SectorDevice.over.Goals as goal

pub invariant_of-device : goal.invariant_of-device
invariant_of-device g c =
    let K = g.F.SectorFile in let state = state_of c.in_ok-mirror.mirror in let size = c.in-Some.size in let bytes : List ℕ = c.in_ok-bytes.bytes.items in
    let rest : IfKept IsAtRest (K.kept c.load.new.self) = subst (λ (file : Option Kept). IfKept IsAtRest file) (sym c.load.ensures.same) c.requires in
    let read : IfKept (λ kept. bytes ≡ kept.bytes) (K.kept c.load.new.self) = subst (λ (file : Option Kept). IfKept (λ kept. bytes ≡ kept.bytes) file) (sym c.load.ensures.same) c.in_ok-bytes.ensures.bytes in
    let long : length bytes ≡ size + 1536 = omega (arith, c.in-Some.ensures.some.0, c.len.ensures) in
    let sizes : length state.bytes ≡ size = ap length c.in_ok-mirror.ensures.row ∙ c.found.ensures.len in
    let is : state.bytes ≡ found_in size bytes = c.in_ok-mirror.ensures.row ∙ c.found.ensures.is in
    let held = c.open_sector-held.result in let gate = c.gate_found-gate.result in let open_so = c.open_sector-held.ensures in
    let seen : c.deref.result.now ≡ bytes = c.deref.ensures.value in
    let finds : IsFoundGate size bytes held gate = subst (λ (row : List ℕ). IsFoundGate size row held gate) c.deref-2.ensures.value c.gate_found-gate.ensures in
    record {
      fits = c.in_ok-mirror.mirror.small;
      room = omega (arith, sizes, long, c.len.ensures, c.len.type_inv);
      sectors = subst HasSectors (sym sizes) c.in-Some.ensures.some.1;
      marked = marks_none c.in_ok-unsettled.unsettled.flags.items state (c.in_ok-unsettled.ensures.len ∙ sym sizes) c.in_ok-unsettled.ensures.none c.in_ok-mirror.ensures.settled;
      inside = subst (λ (n : ℕ). IsForSector gate n) (sym sizes) (found_sector size bytes held gate open_so.inside finds);
      backed = λ kept eq.
          let here : (P : ℕ → List ℕ → Type 0) → P size bytes → P (length state.bytes) kept.bytes = λ P p. subst (λ (n : ℕ). P n kept.bytes) (sym sizes) (subst (λ (row : List ℕ). P size row) (read kept eq) p) in
          opened_stands (present state) kept (rest kept eq) (here (λ n row. length row ≡ n + 1536) long) (here (λ n row. state.bytes ≡ found_in n row) is) held gate
          (here (λ n row. IfSome held (λ number. (is_open n row ≡ true) × (number ≡ spare_number n row)))
          (subst (λ (row : List ℕ). IfSome held (λ number. (is_open size row ≡ true) × (number ≡ spare_number size row))) seen open_so.some))
          (here (λ n row. IsNone held → is_open n row ≡ false) (subst (λ (row : List ℕ). IsNone held → is_open size row ≡ false) seen open_so.none))
          (subst (λ (n : ℕ). IfSome held (λ number. 512 * number + 512 ≤ n)) (sym sizes) open_so.inside)
          (here (λ n row. IsFoundGate n row held gate) finds);
    }

pub returns-clause-settled : goal.returns-clause-settled
returns-clause-settled g c = subst (λ (moment : Moment). (place : ℕ) → ¬ IsTrue (moment.unsettled place)) (sym c.shut.ensures.same) c.in_ok-mirror.ensures.settled
