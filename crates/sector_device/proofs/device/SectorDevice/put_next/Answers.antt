use Rattle.std.proofs.Common.{◌≡◌, ◌+◌, ◌*◌, ◌/◌, Bool, ℕ, true, arith, subst}
use Rattle.save_device.specs.Device.{present}
use Rattle.save_device.specs.Memory.{state_of}
use Rattle.file_device.specs.Kept.{BothKept}
use Rattle.sector_device.specs.Backing.{PutsBelow}
use Rattle.sector_device.proofs.device.SectorDevice.put_next.Goals as goal

pub returns-then-put_whole-clause-put : goal.returns-then-put_whole-clause-put
returns-then-put_whole-clause-put g c =
    let m = c.args.self.now in let K = g.F.SectorFile in let moment = present (state_of m.mirror) in let at = 512 * c.args.number in
    let whole = c.run_at-whole.result / 512 in
    let same : at + 512 * whole ≡ 512 * (c.args.number + whole) = omega arith in
    subst (λ (to : ℕ). BothKept (PutsBelow at to moment true) (K.kept m.file) (K.kept c.put_whole.new.self.file)) same
    (subst (λ (b : Bool). BothKept (PutsBelow at (at + 512 * whole) moment b) (K.kept m.file) (K.kept c.put_whole.new.self.file)) c.if-put_whole.true c.put_whole.ensures.put)

pub returns-then-put_covered-clause-put : goal.returns-then-put_covered-clause-put
returns-then-put_covered-clause-put g c =
    let m = c.args.self.now in let K = g.F.SectorFile in let moment = present (state_of m.mirror) in let at = 512 * c.args.number in
    let same : at + 512 ≡ 512 * (c.args.number + 1) = omega arith in
    subst (λ (to : ℕ). BothKept (PutsBelow at to moment true) (K.kept m.file) (K.kept c.put_covered.new.self.file)) same
    (subst (λ (b : Bool). BothKept (PutsBelow at (at + 512) moment b) (K.kept m.file) (K.kept c.put_covered.new.self.file)) c.if-put_covered.true c.put_covered.ensures.put)
