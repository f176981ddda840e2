use Rattle.std.proofs.Common.{◌≡◌, ◌∙◌, ℕ, List, ap, length, subst}
use Rattle.ddr4_timing.specs.Limits.{lines_of}
use Rattle.slot_store.specs.Outcomes.{NoImage, restored}
use Rattle.slot_store.specs.Slots.{device_size}
use Rattle.slot_store.specs.Told.{Refuses}
use Rattle.slot_store.specs.declared.restoring.RestoreError.{RestoreError}
use Rattle.nv_session.proofs.Beginning.{is_capacity}
use Rattle.open_life.proofs.Beginning.{sized}
use Rattle.open_life.proofs.Calling.{restored_calls}
use Rattle.open_life.proofs.opening.open.Goals as goal

pub restore-requires : goal.restore-requires
restore-requires g c =
    let profile = c.args.profile.now in
    is_capacity profile (g.A.Wires.shape c.args.wires.now profile.map) c.lines_in-lines.result (c.requires profile.map) c.lines_in-lines.ensures

pub open_formatted-requires-clause-size : goal.open_formatted-requires-clause-size
open_formatted-requires-clause-size g c =
    let lines : ℕ = c.lines_in-lines.result in let bytes : List ℕ = (g.D.SaveDevice.state c.args.device).bytes in
    let none : restored lines bytes ≡ NoImage = subst (λ (error : RestoreError). Refuses error (restored lines bytes)) c.in-Err-NoImage.field-0-is c.in-Err-NoImage.ensures.refused in
    ap length c.restore.ensures.same ∙ sized lines bytes none ∙ ap device_size c.lines_in-lines.ensures

pub returns-in-Ok-clause-calls : goal.returns-in-Ok-clause-calls
returns-in-Ok-clause-calls g c =
    restored_calls g.K.ChannelPort g.D.SaveDevice c.open_restored.result c.lines_in-lines.result (lines_of c.args.profile.now.checked.geometry) c.in-Ok.restored
    (g.D.SaveDevice.state c.args.device) c.restore.new.device c.lines_in-lines.ensures c.open_restored.ensures.restored c.open_restored.ensures.device c.in-Ok.ensures.calls
