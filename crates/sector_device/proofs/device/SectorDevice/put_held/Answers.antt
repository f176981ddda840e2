use Rattle.std.proofs.Common.{◌≡◌, ◌∙◌, ◌+◌, ◌*◌, [], ◌∷◌, Bool, ℕ, List, ap, length, subst, sym}
use Rattle.std.specs.Prelude.{slice_range}
use Rattle.save_device.specs.Device.{Moment, present}
use Rattle.save_device.specs.Memory.{state_of}
use Rattle.save_device.specs.declared.memory.MemoryDevice.{MemoryDevice}
use Rattle.file_device.specs.Kept.{BothKept, Flushes}
use Rattle.file_device.proofs.Backing.{kept_on}
use Rattle.sector_device.specs.declared.device.Gate.{Gate}
use Rattle.sector_device.specs.Sectors.{PutsDurably, PutsSectors}
use Rattle.sector_device.specs.Backing.{IsAjar, IsOpenFor, IsPutBelow, StandsWithin}
use Rattle.sector_device.proofs.Steps.{below_gate, below_put_flushed, both_on, sector_ajar, sector_within}
use Rattle.sector_device.proofs.device.SectorDevice.put_held.Goals as goal

pub put_own-requires-clause-within : goal.put_own-requires-clause-within
put_own-requires-clause-within g c = λ kept is.
    let m = c.args.self.now in let moment = present (state_of m.mirror) in let number = c.args.number in
    subst (λ (gate : Gate). StandsWithin gate moment (512 * number) 512 kept) (sym c.requires) (sector_within moment m.sectors number kept ((m.backed kept is).opened number c.requires))

pub shut_gate-requires : goal.shut_gate-requires
shut_gate-requires g c =
    let m = c.args.self.now in let p = c.put_own in let f = c.flush in let K = g.F.SectorFile in let moment = present (state_of m.mirror) in let number = c.args.number in
    let part : List ℕ = slice_range (state_of m.mirror).bytes (512 * number) (512 * number + 512) in
    let ajar : BothKept (λ old new. IsAjar moment new) (K.kept m.file) (K.kept f.new.self.file) =
    both_on {A = IsOpenFor number moment} (K.kept m.file) (K.kept p.new.self.file) (K.kept f.new.self.file) p.ensures.puts f.ensures.flushes
    (λ kept mid next opened puts flushes. sector_ajar moment m.sectors number kept mid next opened (subst (λ (b : Bool). PutsSectors (512 * number) part b kept mid) c.if-not-put_own.false puts)
    (subst (λ (b : Bool). Flushes b mid next) c.if-not-flush.false flushes))
    (λ kept is. (m.backed kept is).opened number c.requires) in
    let same : present (state_of f.new.self.mirror) ≡ moment = ap (λ (mirror : MemoryDevice). present (state_of mirror)) f.ensures.mirror ∙ p.ensures.same in
    λ kept is. subst (λ (moment : Moment). IsAjar moment kept) (sym same)
    (kept_on {A = IsOpenFor number moment} (K.kept m.file) (K.kept f.new.self.file) ajar (λ was next done _. done) (λ kept is. (m.backed kept is).opened number c.requires) kept is)

pub returns-clause-put : goal.returns-clause-put
returns-clause-put g c =
    let m = c.args.self.now in let p = c.put_own in let f = c.flush in let s = c.shut_gate in let K = g.F.SectorFile in let moment = present (state_of m.mirror) in let number = c.args.number in let at = 512 * number in
    let part : List ℕ = slice_range (state_of m.mirror).bytes at (at + 512) in
    let opened : (kept : _) → K.kept m.file ≡ _ → IsOpenFor number moment kept = λ kept is. (m.backed kept is).opened number c.requires in
    let same : present (state_of f.new.self.mirror) ≡ moment = ap (λ (mirror : MemoryDevice). present (state_of mirror)) f.ensures.mirror ∙ p.ensures.same in
    let first : BothKept (λ old new. IsPutBelow at moment old → IsPutBelow (at + 512) moment new) (K.kept m.file) (K.kept f.new.self.file) =
    both_on {A = IsOpenFor number moment} (K.kept m.file) (K.kept p.new.self.file) (K.kept f.new.self.file) p.ensures.puts f.ensures.flushes
    (λ kept mid next opened puts flushes. below_put_flushed moment m.sectors number kept mid next opened (subst (λ (b : Bool). PutsSectors at part b kept mid) c.if-not-put_own.false puts)
    (subst (λ (b : Bool). Flushes b mid next) c.if-not-flush.false flushes)) opened in
    both_on {A = IsOpenFor number moment} (K.kept m.file) (K.kept f.new.self.file) (K.kept s.new.self.file) first s.ensures.puts
    (λ kept mid next opened puts shuts well below. below_gate moment m.sectors (at + 512) 0 s.result mid next opened.inside
    (subst (λ (moment : Moment). PutsDurably (length moment.bytes + 1024) (0 ∷ []) s.result mid next) same shuts) well (puts below)) opened
