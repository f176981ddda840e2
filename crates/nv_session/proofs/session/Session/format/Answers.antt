use Rattle.std.specs.Prelude.{OnOk}
use Rattle.std.proofs.Common.{List, ap, subst}
use Rattle.nv_session.proofs.Common.{ModuleStands, Profile, RunsWith, Setup, device_state, first_image, lines_of}
use Rattle.save_device.specs.declared.calls.Call.{Call}
use Rattle.slot_store.specs.Formatted.{first_head}
use Rattle.module_core.specs.Opening.{opened_with}
use Rattle.nv_session.specs.Faults.{HadOneFormat, is_format_fault}
use Rattle.nv_session.specs.Sessions.{setup_over}
use Rattle.nv_session.proofs.Beginning.{same_setup}
use Rattle.nv_session.proofs.Faults.{counts_behind}
use Rattle.nv_session.specs.Living.{RunsUnissued}
use Rattle.nv_session.proofs.session.Session.format.Goals as goal

pub returns-clause-begins : goal.returns-clause-begins
returns-clause-begins g c =
    let L = g.K.ChannelPort in let old = c.args.self.now in let stopped = c.stop.new.self in let new = c.create.new.self in
    let Begins : Setup → Profile → Type 0 = λ setup profile.
    OnOk c.create.result (RunsWith L setup (λ life. ModuleStands L life (device_state new.device) (opened_with first_head (first_image (lines_of profile.checked.geometry)))) new.life) in
    subst (λ (setup : Setup). Begins setup old.profile) (same_setup old stopped stopped.profile.map old.profile.map c.stop.ensures.profile c.stop.ensures.wires (ap (λ (p : Profile). p.map) c.stop.ensures.profile))
    (subst (λ (profile : Profile). Begins (setup_over stopped stopped.profile.map) profile) c.stop.ensures.profile c.create.ensures.begins)

pub returns-clause-faults : goal.returns-clause-faults
returns-clause-faults g c =
    counts_behind (is_format_fault c.create.result) (device_state c.args.self.now.device) (device_state c.stop.new.self.device) (device_state c.create.new.self.device) c.stop.ensures.calls c.create.ensures.faults

pub returns-clause-issued : goal.returns-clause-issued
returns-clause-issued g c = subst (λ (p : Profile). OnOk c.create.result (RunsUnissued g.K.ChannelPort p.checked c.create.new.self.life)) c.stop.ensures.profile c.create.ensures.issued

pub returns-clause-calls : goal.returns-clause-calls
returns-clause-calls g c =
    let old = c.args.self.now in let stopped = c.stop.new.self in let new : List Call = (device_state c.create.new.self.device).calls in
    subst (λ (was : List Call). HadOneFormat (lines_of old.profile.checked.geometry) c.create.result was new) c.stop.ensures.calls
    (subst (λ (p : Profile). HadOneFormat (lines_of p.checked.geometry) c.create.result (device_state stopped.device).calls new) c.stop.ensures.profile c.create.ensures.calls)
