use Rattle.std.proofs.Common.{List, [], ◌∷◌, ◌++◌, ap, ◌∙◌}
use Rattle.save_device.specs.declared.calls.Call.{Call}
use Rattle.save_device.specs.Calls.{called}
use Rattle.save_device.proofs.calls.CallLog.note.Goals as goal

pub returns-then-not-is_good : goal.returns-then-not-is_good
returns-then-not-is_good c = c.note.ensures ∙ ap (λ (calls : List Call). calls ++ called c.args.kind c.args.is_good ∷ []) c.self.view_is

pub returns-else-not-is_good : goal.returns-else-not-is_good
returns-else-not-is_good c = c.note.ensures ∙ ap (λ (calls : List Call). calls ++ called c.args.kind c.args.is_good ∷ []) c.self.view_is
