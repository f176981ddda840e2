use Rattle.std.proofs.Common.{◌≡◌, ◌∙◌, Bool, false, ap, subst}
use Rattle.std.specs.Prelude.{not, is_ok}
use Rattle.save_device.specs.Memory.{state_of}
use Rattle.file_device.specs.Kept.{Backs}
use Rattle.file_device.proofs.Backing.{kept_on, not_twice, flush_backs}
use Rattle.file_device.proofs.device.FileDevice.flush.Goals as goal

pub invariant_of-self : goal.invariant_of-self
invariant_of-self g c =
    let K = g.F.DiskFile in let now = c.catch_up.new.self in
    let current : now.is_behind ≡ false = c.catch_up.ensures.behind ∙ ap not c.if-not-catch_up.false in
    let backs : Backs false (state_of now.mirror) (K.kept now.file) = subst (λ (behind : Bool). Backs behind (state_of now.mirror) (K.kept now.file)) current now.backed in
    let answer : c.is_err-self.result ≡ not (is_ok c.flush.result) = not_twice _ _ c.is_err-self.ensures.negation in
    record {
      fits = now.fits;
      marked = now.marked;
      backed = kept_on (K.kept now.file) (K.kept c.flush.new.self) c.flush.ensures (λ kept next flushes whole. flush_backs (state_of now.mirror) _ kept next flushes whole _ answer) backs;
    }
