use Rattle.save_device.proofs.CallLists.{one_call}
use Rattle.slot_store.proofs.Common.{[], ◌∷◌, Bool, MakesCalls, Sync, Write, calls_on, false, first_fails, on_err, true}
use Rattle.slot_store.proofs.FirstSave.{on_any_err}
use Rattle.slot_store.proofs.Rearmed.{arm_alone, both_alone, both_armed, both_failed, both_leave, write_failed, write_leaves}
use Rattle.slot_store.proofs.arming.mark_armed.Goals as goal

pub returns-in_err-write_at-clause-calls : goal.returns-in_err-write_at-clause-calls
returns-in_err-write_at-clause-calls g c =
    let S = g.D.SaveDevice in let old = (S.state c.args.device.now).calls in let new = (S.state c.write_at.new.self).calls in
    on_err c.from_residual.result (λ (good : Bool). MakesCalls (Write ∷ Sync ∷ []) good old new) c.from_residual.ensures.0 (first_fails Write (Sync ∷ []) old new c.in_err-write_at.ensures.call.counted)

pub returns-in_err-write_at-clause-outside : goal.returns-in_err-write_at-clause-outside
returns-in_err-write_at-clause-outside g c = λ lines size.
    let S = g.D.SaveDevice in let old = S.state c.args.device.now in let mid = S.state c.write_at.new.self in let slot = c.args.slot in let place = c.arm_place.result in
    arm_alone lines slot old mid place 0x5A (c.arm_place.ensures.place lines size) _ c.write_at.ensures

pub returns-in_err-write_at-clause-failed : goal.returns-in_err-write_at-clause-failed
returns-in_err-write_at-clause-failed g c =
    let S = g.D.SaveDevice in let old = S.state c.args.device.now in let mid = S.state c.write_at.new.self in let slot = c.args.slot in let place = c.arm_place.result in
    on_any_err c.from_residual.result _ (λ newest lines closed rest. write_failed lines slot old mid place 0x5A (c.arm_place.ensures.place lines rest.size) _ c.write_at.ensures newest closed rest)

pub returns-in_err-write_at-clause-any_moment : goal.returns-in_err-write_at-clause-any_moment
returns-in_err-write_at-clause-any_moment g c = λ newest lines closed rest.
    let S = g.D.SaveDevice in let old = S.state c.args.device.now in let mid = S.state c.write_at.new.self in let slot = c.args.slot in let place = c.arm_place.result in
    write_leaves lines slot old mid place 0x5A (c.arm_place.ensures.place lines rest.size) _ c.write_at.ensures newest closed rest

pub returns-in_err-sync-clause-calls : goal.returns-in_err-sync-clause-calls
returns-in_err-sync-clause-calls g c =
    let S = g.D.SaveDevice in let old = (S.state c.args.device.now).calls in let mid = (S.state c.write_at.new.self).calls in let new = (S.state c.sync.new.self).calls in
    on_err c.from_residual-in_err-sync.result (λ (good : Bool). MakesCalls (Write ∷ Sync ∷ []) good old new) c.from_residual-in_err-sync.ensures.0
    (calls_on (Write ∷ []) (Sync ∷ []) false old mid new c.in_ok-write_at.ensures.call.counted (one_call Sync false mid new c.in_err-sync.ensures.call.counted))

pub returns-in_err-sync-clause-outside : goal.returns-in_err-sync-clause-outside
returns-in_err-sync-clause-outside g c = λ lines size.
    let S = g.D.SaveDevice in let old = S.state c.args.device.now in let mid = S.state c.write_at.new.self in let new = S.state c.sync.new.self in let slot = c.args.slot in let place = c.arm_place.result in
    both_alone lines slot old mid place 0x5A (c.arm_place.ensures.place lines size) _ c.write_at.ensures new _ c.sync.ensures

pub returns-in_err-sync-clause-failed : goal.returns-in_err-sync-clause-failed
returns-in_err-sync-clause-failed g c =
    let S = g.D.SaveDevice in let old = S.state c.args.device.now in let mid = S.state c.write_at.new.self in let new = S.state c.sync.new.self in let slot = c.args.slot in let place = c.arm_place.result in
    on_any_err c.from_residual-in_err-sync.result _ (λ newest lines closed rest. both_failed lines slot old mid place 0x5A (c.arm_place.ensures.place lines rest.size) _ c.write_at.ensures new _ c.sync.ensures newest closed rest)

pub returns-in_err-sync-clause-any_moment : goal.returns-in_err-sync-clause-any_moment
returns-in_err-sync-clause-any_moment g c = λ newest lines closed rest.
    let S = g.D.SaveDevice in let old = S.state c.args.device.now in let mid = S.state c.write_at.new.self in let new = S.state c.sync.new.self in let slot = c.args.slot in let place = c.arm_place.result in
    both_leave lines slot old mid place 0x5A (c.arm_place.ensures.place lines rest.size) _ c.write_at.ensures new _ c.sync.ensures newest closed rest

pub returns-clause-calls : goal.returns-clause-calls
returns-clause-calls g c =
    let S = g.D.SaveDevice in let old = (S.state c.args.device.now).calls in let mid = (S.state c.write_at.new.self).calls in let new = (S.state c.sync.new.self).calls in
    calls_on (Write ∷ []) (Sync ∷ []) true old mid new c.in_ok-write_at.ensures.call.counted (one_call Sync true mid new c.in_ok-sync.ensures.call.counted)

pub returns-clause-outside : goal.returns-clause-outside
returns-clause-outside g c = λ lines size.
    let S = g.D.SaveDevice in let old = S.state c.args.device.now in let mid = S.state c.write_at.new.self in let new = S.state c.sync.new.self in let slot = c.args.slot in let place = c.arm_place.result in
    both_alone lines slot old mid place 0x5A (c.arm_place.ensures.place lines size) _ c.write_at.ensures new _ c.sync.ensures

pub returns-clause-armed : goal.returns-clause-armed
returns-clause-armed g c = λ newest lines closed rest.
    let S = g.D.SaveDevice in let old = S.state c.args.device.now in let mid = S.state c.write_at.new.self in let new = S.state c.sync.new.self in let slot = c.args.slot in let place = c.arm_place.result in
    both_armed lines slot old mid place 0x5A (c.arm_place.ensures.place lines rest.size) _ c.write_at.ensures new _ c.sync.ensures newest closed rest c.in_ok-write_at.ensures.done c.in_ok-sync.ensures.done c.in_ok-sync.ensures.settled

pub returns-clause-any_moment : goal.returns-clause-any_moment
returns-clause-any_moment g c = λ newest lines closed rest.
    let S = g.D.SaveDevice in let old = S.state c.args.device.now in let mid = S.state c.write_at.new.self in let new = S.state c.sync.new.self in let slot = c.args.slot in let place = c.arm_place.result in
    both_leave lines slot old mid place 0x5A (c.arm_place.ensures.place lines rest.size) _ c.write_at.ensures new _ c.sync.ensures newest closed rest
