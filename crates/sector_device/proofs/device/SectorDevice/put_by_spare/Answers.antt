use Rattle.std.proofs.Common.{◌≡◌, ◌∙◌, ◌+◌, ◌*◌, [], ◌∷◌, Bool, ap, arith, length, subst, sym}
use Rattle.save_device.specs.Device.{Moment, present}
use Rattle.save_device.specs.Memory.{state_of}
use Rattle.save_device.specs.declared.memory.MemoryDevice.{MemoryDevice}
use Rattle.file_device.specs.Kept.{BothKept}
use Rattle.file_device.proofs.Backing.{kept_on}
use Rattle.sector_device.specs.Sectors.{PutsDurably}
use Rattle.sector_device.specs.Spare.{spare_of}
use Rattle.sector_device.specs.Backing.{HoldsSector, IsPutBelow, IsShut, PutsBelow}
use Rattle.sector_device.proofs.Steps.{below_gate, below_spare, both_on, spare_holds}
use Rattle.sector_device.proofs.device.SectorDevice.put_by_spare.Goals as goal

pub open_gate-requires-clause-holds : goal.open_gate-requires-clause-holds
open_gate-requires-clause-holds g c =
    let m = c.args.self.now in let s = c.put_spare in let K = g.F.SectorFile in let moment = present (state_of m.mirror) in let number = c.args.number in
    λ kept is. subst (λ (moment : Moment). HoldsSector number moment kept) (sym s.ensures.same)
    (kept_on {A = IsShut moment} (K.kept m.file) (K.kept s.new.self.file) s.ensures.puts
    (λ was next puts shut. spare_holds moment m.sectors number was next (omega (arith, c.requires.inside, m.fits)) c.requires.inside shut.size
    (subst (λ (b : Bool). PutsDurably (length moment.bytes) (spare_of number moment.bytes) b was next) c.if-not-put_spare.false puts))
    (λ kept is. (m.backed kept is).shut c.requires.shut) kept is)

pub returns-clause-put : goal.returns-clause-put
returns-clause-put g c =
    let m = c.args.self.now in let s = c.put_spare in let o = c.open_gate in let h = c.put_held in let K = g.F.SectorFile in let moment = present (state_of m.mirror) in let number = c.args.number in let at = 512 * number in
    let shut : (kept : _) → K.kept m.file ≡ _ → IsShut moment kept = λ kept is. (m.backed kept is).shut c.requires.shut in
    let same : present (state_of o.new.self.mirror) ≡ moment = ap (λ (mirror : MemoryDevice). present (state_of mirror)) o.ensures.mirror ∙ s.ensures.same in
    let first : BothKept (λ old new. IsPutBelow at moment old → IsPutBelow at moment new) (K.kept m.file) (K.kept o.new.self.file) =
    both_on {A = IsShut moment} (K.kept m.file) (K.kept s.new.self.file) (K.kept o.new.self.file) s.ensures.puts o.ensures.puts
    (λ kept mid next shut spare opens below. below_gate moment m.sectors at 1 o.result mid next (omega (arith, c.requires.inside))
    (subst (λ (moment : Moment). PutsDurably (length moment.bytes + 1024) (1 ∷ []) o.result mid next) s.ensures.same opens) c.if-not-open_gate.false
    (below_spare moment m.sectors number s.result kept mid c.requires.inside spare c.if-not-put_spare.false below)) shut in
    both_on {A = IsShut moment} (K.kept m.file) (K.kept o.new.self.file) (K.kept h.new.self.file) first h.ensures.put
    (λ kept mid next shut puts held well below. subst (λ (moment : Moment). PutsBelow at (at + 512) moment h.result mid next) same held well (puts below)) shut
