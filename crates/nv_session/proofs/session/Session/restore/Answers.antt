use Rattle.std.specs.Prelude.{OnOk}
use Rattle.std.proofs.Common.{◌∙◌, ◌≢◌, ℕ, List, ap, sym, subst, unwrap_or, None}
use Rattle.std.proofs.lemmas.Result.{IfOk-weaker, IfErr-weaker}
use Rattle.nv_session.proofs.Common.{DeviceState, FindsPrefixOf, KeepsPrefixOf, MayLeave, Profile, Revives, RunsWith}
use Rattle.nv_session.proofs.Common.{Setup, device_state, lines_of, present, restored}
use Rattle.interleave_map.specs.declared.ready.Interleaving.{Interleaving}
use Rattle.slot_store.specs.Told.{Refuses, IsFailure, is_fault}
use Rattle.nv_session.specs.Sessions.{moment_in, restored_in, setup_over}
use Rattle.nv_session.proofs.Beginning.{revives_again, same_restored, same_setup}
use Rattle.nv_session.specs.Faults.{HadOneRestore}
use Rattle.nv_session.proofs.Faults.{counts_behind}
use Rattle.nv_session.proofs.Restoring.{left_again, session_finds, session_fails, session_keeps}
use Rattle.nv_session.specs.Living.{RunsUnissued}
use Rattle.nv_session.proofs.session.Session.restore.Goals as goal

pub returns-clause-revives : goal.returns-clause-revives
returns-clause-revives g c =
    let L = g.K.ChannelPort in let old = c.args.self.now in let stopped = c.stop.new.self in let new = c.revive.new.self in
    let map : Interleaving = unwrap_or c.args.map old.profile.map in
    let device : DeviceState = device_state new.device in
    IfOk-weaker c.revive.result
    (λ found. RunsWith L (setup_over stopped c.unwrap_or.result) (λ it. Revives L (restored_in stopped) found it device) new.life)
    (λ found. RunsWith L (setup_over old map) (λ it. Revives L (restored_in new) found it device) new.life)
    (λ found runs.
    revives_again L (setup_over stopped c.unwrap_or.result) (setup_over old map) (restored_in stopped) (restored_in new) found device new.life
    (same_setup old stopped c.unwrap_or.result map c.stop.ensures.profile c.stop.ensures.wires (c.unwrap_or.ensures ∙ ap (λ (p : Profile). unwrap_or c.args.map p.map) c.stop.ensures.profile))
    (sym (same_restored stopped new c.revive.ensures.profile c.revive.ensures.same)) runs)
    c.revive.ensures.revives

pub returns-clause-finds : goal.returns-clause-finds
returns-clause-finds g c =
    let L = g.K.ChannelPort in let old = c.args.self.now in let new = c.revive.new.self in
    let setup : Setup = setup_over old (unwrap_or c.args.map old.profile.map) in
    let device : DeviceState = device_state new.device in let lines : ℕ = lines_of old.profile.checked.geometry in
    IfOk-weaker c.revive.result (λ found. RunsWith L setup (λ it. Revives L (restored_in new) found it device) new.life) (λ found. FindsPrefixOf L lines setup (moment_in old) found (moment_in new))
    (λ found runs.
    session_finds L old.profile setup (moment_in old) (moment_in new) device.bytes found old.living
    (subst (λ (bytes : List ℕ). MayLeave (present (device_state old.device)) bytes) (sym c.revive.ensures.same) c.stop.ensures.left)
    (subst (λ (p : Profile). RunsWith L setup (λ it. Revives L (restored (lines_of p.checked.geometry) device.bytes) found it device) new.life) (c.revive.ensures.profile ∙ c.stop.ensures.profile) runs))
    (returns-clause-revives g c)

pub returns-clause-fails : goal.returns-clause-fails
returns-clause-fails g c =
    let old = c.args.self.now in let lines : ℕ = lines_of old.profile.checked.geometry in let bytes : List ℕ = (device_state c.stop.new.self.device).bytes in
    IfErr-weaker c.revive.result (λ error. Refuses error (restored (lines_of c.stop.new.self.profile.checked.geometry) bytes)) (λ error. old.life ≢ None → IsFailure error)
    (λ error refuses.
    session_fails g.K.ChannelPort old.profile (moment_in old) bytes error old.living c.stop.ensures.left
    (subst (λ (p : Profile). Refuses error (restored (lines_of p.checked.geometry) bytes)) c.stop.ensures.profile refuses))
    c.revive.ensures.refused

pub returns-clause-keeps : goal.returns-clause-keeps
returns-clause-keeps g c =
    let L = g.K.ChannelPort in let old = c.args.self.now in let new = c.revive.new.self in
    let stopped : DeviceState = device_state c.stop.new.self.device in let lines : ℕ = lines_of old.profile.checked.geometry in
    IfErr-weaker c.revive.result (λ error. Refuses error (restored (lines_of c.stop.new.self.profile.checked.geometry) stopped.bytes)) (λ error. KeepsPrefixOf L lines (moment_in old) error (moment_in new))
    (λ error refuses.
    session_keeps L old.profile (moment_in old) (moment_in new) stopped error old.living c.stop.ensures.left c.stop.ensures.settled c.revive.ensures.any_moment
    (subst (λ (p : Profile). Refuses error (restored (lines_of p.checked.geometry) stopped.bytes)) c.stop.ensures.profile refuses))
    c.revive.ensures.refused

pub returns-clause-faults : goal.returns-clause-faults
returns-clause-faults g c =
    counts_behind (is_fault c.revive.result) (device_state c.args.self.now.device) (device_state c.stop.new.self.device) (device_state c.revive.new.self.device) c.stop.ensures.calls c.revive.ensures.faults

pub returns-clause-again : goal.returns-clause-again
returns-clause-again g c =
    left_again (device_state c.stop.new.self.device) (device_state c.revive.new.self.device) c.stop.ensures.settled c.revive.ensures.any_moment c.revive.ensures.same

pub returns-clause-issued : goal.returns-clause-issued
returns-clause-issued g c = subst (λ (p : Profile). OnOk c.revive.result (RunsUnissued g.K.ChannelPort p.checked c.revive.new.self.life)) c.stop.ensures.profile c.revive.ensures.issued

pub returns-clause-calls : goal.returns-clause-calls
returns-clause-calls g c =
    let stopped = c.stop.new.self in let new = c.revive.new.self in
    record {
      stopped = device_state stopped.device;
      calls = c.stop.ensures.calls;
      bytes = sym c.revive.ensures.same;
      had = subst (λ (p : Profile). HadOneRestore (lines_of p.checked.geometry) c.revive.result (device_state stopped.device) (device_state new.device)) c.stop.ensures.profile c.revive.ensures.calls;
    }
