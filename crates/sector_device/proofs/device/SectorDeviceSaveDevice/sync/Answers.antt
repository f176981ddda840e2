use Rattle.std.proofs.Common.{◌≡◌, ◌∙◌, List, [], ◌∷◌, ◌++◌, Bool, ap, subst, arith, false, sym}
use Rattle.save_device.specs.Device.{present, with_calls}
use Rattle.save_device.specs.declared.calls.Call.{Call}
use Rattle.save_device.specs.declared.calls.CallKind.TheVariants.{Sync}
use Rattle.save_device.specs.Calls.{called}
use Rattle.save_device.specs.Memory.{state_of}
use Rattle.file_device.proofs.Backing.{marks_none, ok_says, on_ok, settles_not}
use Rattle.sector_device.specs.declared.device.Gate.{Gate}
use Rattle.sector_device.specs.declared.device.Gate.TheVariants.{Shut, Open}
use Rattle.sector_device.specs.Backing.{HasSectors, Stands}
use Rattle.sector_device.proofs.Steps.{saved_same, saved_stands, stands_shut}
use Rattle.sector_device.proofs.device.SectorDeviceSaveDevice.sync.Goals as goal

pub invariant_of-self : goal.invariant_of-self
invariant_of-self g c =
    let mid = c.save-is_good.new.self in let M = c.sync.ensures.makes in let after = present (state_of c.sync.new.self) in
    let same : (state_of c.sync.new.self).bytes ≡ (state_of mid.mirror).bytes = on_ok c.sync.result c.sync.ensures.ok M.done in
    let shut : mid.gate ≡ Shut = c.save-is_good.ensures.shut c.if-is_good.true in
    record {
      fits = omega (arith, M.outside.size, mid.fits);
      room = omega (arith, M.outside.size, mid.room);
      sectors = subst HasSectors (sym M.outside.size) mid.sectors;
      marked = marks_none c.clear.new.self.flags.items (state_of c.sync.new.self) (omega (arith, c.clear.ensures.len, mid.marked.size, M.outside.size)) c.clear.ensures.none (on_ok c.sync.result c.sync.ensures.ok M.settled);
      inside = λ number is. let opened : Shut ≡ Open number = sym shut ∙ is in absurd (let none : ⊥ = cc in none);
      backed = λ kept is. subst (λ (gate : Gate). Stands gate after kept) (sym shut)
          (stands_shut after kept (saved_stands (present (state_of mid.mirror)) after kept same (c.save-is_good.ensures.saved c.if-is_good.true kept is)));
    }

pub returns-then-is_good-clause-saved : goal.returns-then-is_good-clause-saved
returns-then-is_good-clause-saved g c =
    let mid = c.save-is_good.new.self in let M = c.sync.ensures.makes in
    let same : (state_of c.sync.new.self).bytes ≡ (state_of mid.mirror).bytes = on_ok c.sync.result c.sync.ensures.ok M.done in
    ok_says c.sync.result (λ kept is. saved_same (present (state_of mid.mirror)) (present (state_of c.sync.new.self)) kept same (c.save-is_good.ensures.saved c.if-is_good.true kept is))

pub returns-else-is_good-clause-makes : goal.returns-else-is_good-clause-makes
returns-else-is_good-clause-makes g c =
    let old = c.args.self.now in let mid = c.save-is_good.new.self in let F = c.save-is_good.ensures in
    settles_not (with_calls (state_of old.mirror) old.calls) (with_calls (state_of mid.mirror) c.note.new.self) F.same F.earlier
    (subst (λ (good : Bool). c.note.new.self ≡ mid.calls ++ called Sync good ∷ []) c.if-is_good.false c.note.ensures ∙ ap (λ (calls : List Call). calls ++ called Sync false ∷ []) F.calls)
