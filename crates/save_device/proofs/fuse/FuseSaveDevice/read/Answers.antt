use Rattle.std.proofs.Common.{Bool, [], ◌∷◌, ◌++◌, ap, ◌∙◌}
use Rattle.save_device.specs.declared.calls.CallKind.TheVariants.{Read}
use Rattle.save_device.specs.Calls.{called}
use Rattle.save_device.proofs.Around.{elapses_around}
use Rattle.save_device.proofs.fuse.FuseSaveDevice.read.Goals as goal

pub returns-clause-call : goal.returns-clause-call
returns-clause-call g c =
    let S = g.D.SaveDevice in let calls = c.args.self.now.calls in
    record {
      counted = c.note-2.ensures ∙ ap (λ (good : Bool). calls ++ called Read good ∷ []) c.is_ok.ensures.value;
      time = elapses_around (S.state c.args.self.now.device) (S.state c.read-result.new.self) calls c.note-2.new.self c.read-result.ensures.call.time;
    }
