use Rattle.std.proofs.Common.{sym, ◌∙◌, ◌≡◌, subst, Option}
use Rattle.save_device.specs.Memory.{state_of}
use Rattle.file_device.specs.Kept.{Kept, IfKept, IsAtRest}
use Rattle.file_device.proofs.Backing.{rest_backs, marks_none}
use Rattle.file_device.proofs.device.FileDevice.over.Goals as goal

pub invariant_of-result : goal.invariant_of-result
invariant_of-result g c =
    let K = g.F.DiskFile in let state = state_of c.in_ok-mirror.mirror in
    let rest : IfKept IsAtRest (K.kept c.load.new.self) = subst (λ (file : Option Kept). IfKept IsAtRest file) (sym c.load.ensures.same) c.requires in
    let same : IfKept (λ kept. state.bytes ≡ kept.bytes) (K.kept c.load.new.self) =
    subst (λ (file : Option Kept). IfKept (λ kept. state.bytes ≡ kept.bytes) file) (sym c.load.ensures.same) (λ kept is. c.in_ok-mirror.ensures.row ∙ c.in_ok-bytes.ensures.bytes kept is) in
    record {
      fits = c.in_ok-mirror.mirror.small;
      marked = marks_none c.in_ok-unsettled.unsettled.flags.items state (c.in_ok-unsettled.ensures.len ∙ c.len.ensures) c.in_ok-unsettled.ensures.none c.in_ok-mirror.ensures.settled;
      backed = rest_backs state (K.kept c.load.new.self) rest same;
    }
