use Rattle.std.specs.Prelude.{IfErr, IfOk, Option}
use Rattle.std.proofs.lemmas.Result.{IfOk-weaker}
use Rattle.save_device.proofs.ReadRuns.{settled_same, sync_leaves}
use Rattle.save_device.proofs.Rows.{same_rows}
use Rattle.save_image.specs.Header.{Fits}
use Rattle.save_image.specs.Reading.{version_in}
use Rattle.save_image.specs.declared.reading.Header.{Header}
use Rattle.slot_store.specs.Told.{AreReadings, IsRestored, Refuses, header_at, header_of_reading, image_of_head, in_slot}
use Rattle.slot_store.specs.declared.head.Head.{Head}
use Rattle.slot_store.specs.declared.restoring.Restored.{Restored}
use Rattle.slot_store.proofs.Common.{ℕ, ◌∙◌, ◌≡◌, DeviceState, Err, First, Found, HasSize, Image, IsAtRestOn, IsMemory, IsSettled, List, Moment, Ok, RestoreError, Result, ap, arith, device_size, false, is_closed, length, other, page_in, reads_on, refl, restored, slot_state, subst, sym}
use Rattle.slot_store.proofs.Checked.{no_pages}
use Rattle.slot_store.proofs.Picked.{wrong_size}
use Rattle.slot_store.proofs.Resting.{found_image, rest_restored}
use Rattle.slot_store.proofs.RestoreCalls.{calls_of_fault, calls_of_headers, calls_of_newest, calls_of_refusal, sync_and_reads}
use Rattle.slot_store.proofs.restoring.restore_by.Goals as goal

-- the version is that of the newest image's page
version_of_newest : (lines : ℕ) (head : Head) (seen bytes : List ℕ) → seen ≡ bytes → (result : Result Restored RestoreError) → IfOk result (λ it. it.head ≡ head)
    → IfOk result (λ it. it.version ≡ version_in (page_in lines head.newest.slot seen)) → IfOk result (λ it. it.version ≡ version_in (page_in lines it.head.newest.slot bytes))
version_of_newest lines head seen bytes same (Ok it) head_is version_is =
    version_is ∙ ap (λ (row : List ℕ). version_in (page_in lines head.newest.slot row)) same ∙ ap (λ (h : Head). version_in (page_in lines h.newest.slot bytes)) (sym head_is)
version_of_newest lines head seen bytes same (Err error) head_is version_is = tt

-- what was restored is a memory of that size, and its numbers are those of an image
restored_sound : (lines : ℕ) (bytes : List ℕ) (it : Restored) → length bytes ≡ device_size lines → IsRestored it lines bytes → IsMemory lines it.lines.items × Fits it.head.newest.generation it.head.count
restored_sound lines bytes it size is =
    let image = found_image lines it.head.newest.slot (image_of_head it.head is.arm it.lines.items) bytes size is.newest in
    (image.memory, image.fits)

-- a device that was synced and then only read is at rest on what was restored of it
at_rest : (lines : ℕ) (it : Restored) (image : Image) (two last : DeviceState) → HasSize lines last → last.bytes ≡ two.bytes → IsSettled last → IsRestored it lines two.bytes
    → restored lines last.bytes ≡ Found it.head.newest.slot image → IsAtRestOn it.head.newest.slot image lines it.head.closed last
at_rest lines it image two last size since settled found is =
    rest_restored lines it.head.newest.slot image it.head.closed last size settled is
    (found.shut ∙ ap (λ (bytes : List ℕ). is_closed (slot_state lines (other it.head.newest.slot) bytes)) (sym since))

pub returns-then-len-device_size-clause-refused : goal.returns-then-len-device_size-clause-refused
returns-then-len-device_size-clause-refused g c =
    wrong_size c.args.lines (g.D.SaveDevice.state c.args.device.now).bytes (λ e. omega (arith, e, c.len.ensures, c.device_size.ensures, c.if-len-device_size.true))

pub returns-then-len-device_size-clause-calls : goal.returns-then-len-device_size-clause-calls
returns-then-len-device_size-clause-calls g c = refl

pub returns-in_default-clause-calls : goal.returns-in_default-clause-calls
returns-in_default-clause-calls g c =
    let S = g.D.SaveDevice in calls_of_fault c.args.lines (S.state c.args.device.now) (S.state c.sync.new.self) c.in_default.ensures

pub returns-in_default-clause-same : goal.returns-in_default-clause-same
returns-in_default-clause-same g c =
    let S = g.D.SaveDevice in same_rows (S.state c.args.device.now).bytes (S.state c.sync.new.self).bytes c.sync.ensures.outside

pub returns-in_default-clause-any_moment : goal.returns-in_default-clause-any_moment
returns-in_default-clause-any_moment g c =
    let S = g.D.SaveDevice in sync_leaves false (S.state c.args.device.now) (S.state c.sync.new.self) c.in_default.ensures

pub returns-in_default-read_both-clause-calls : goal.returns-in_default-read_both-clause-calls
returns-in_default-read_both-clause-calls g c =
    let S = g.D.SaveDevice in
    calls_of_headers c.args.lines (S.state c.args.device.now) (S.state c.sync.new.self) (S.state c.read_both.new.device) c.in-Ok.ensures c.in_default-read_both.ensures.reads

pub returns-in_default-read_both-clause-same : goal.returns-in_default-read_both-clause-same
returns-in_default-read_both-clause-same g c = ap (λ (moment : Moment). moment.bytes) c.read_both.ensures.reads.same ∙ c.in-Ok.ensures.done

pub returns-in_default-read_both-clause-any_moment : goal.returns-in_default-read_both-clause-any_moment
returns-in_default-read_both-clause-any_moment g c =
    let S = g.D.SaveDevice in
    sync_and_reads _ (S.state c.args.device.now) (S.state c.sync.new.self) (S.state c.read_both.new.device) 2 c.in-Ok.ensures c.read_both.ensures.reads

pub read_newest-requires-clause-size : goal.read_newest-requires-clause-size
read_newest-requires-clause-size g c =
    ap (λ (moment : Moment). length moment.bytes) c.in-Ok-read_both.ensures.reads.same ∙ ap length c.in-Ok.ensures.done ∙ omega (arith, c.len.ensures, c.device_size.ensures, c.if-len-device_size.false)

pub refusal-requires-clause-size : goal.refusal-requires-clause-size
refusal-requires-clause-size g c =
    ap (λ (moment : Moment). length moment.bytes) c.in-Ok-read_both.ensures.reads.same ∙ ap length c.in-Ok.ensures.done ∙ omega (arith, c.len.ensures, c.device_size.ensures, c.if-len-device_size.false)

pub read_newest-requires-clause-readings : goal.read_newest-requires-clause-readings
read_newest-requires-clause-readings g c =
    subst (λ (bytes : List ℕ). AreReadings c.args.lines bytes c.in-Ok-read_both.readings) (sym (ap (λ (moment : Moment). moment.bytes) c.in-Ok-read_both.ensures.reads.same)) c.in-Ok-read_both.ensures.readings

pub refusal-requires-clause-readings : goal.refusal-requires-clause-readings
refusal-requires-clause-readings g c =
    subst (λ (bytes : List ℕ). AreReadings c.args.lines bytes c.in-Ok-read_both.readings) (sym (ap (λ (moment : Moment). moment.bytes) c.in-Ok-read_both.ensures.reads.same)) c.in-Ok-read_both.ensures.readings

pub returns-in-Ok-choose-clause-found : goal.returns-in-Ok-choose-clause-found
returns-in-Ok-choose-clause-found g c =
    let S = g.D.SaveDevice in let lines : ℕ = c.args.lines in let first : List ℕ = (S.state c.args.device.now).bytes in let mid = S.state c.sync.new.self in let two = S.state c.read_both.new.device in
    let since : two.bytes ≡ first = ap (λ (moment : Moment). moment.bytes) c.in-Ok-read_both.ensures.reads.same ∙ c.in-Ok.ensures.done in
    subst (λ (bytes : List ℕ). IfOk c.read_newest.result (λ it. IsRestored it lines bytes)) since c.read_newest.ensures.found

pub returns-in-Ok-choose-clause-sound : goal.returns-in-Ok-choose-clause-sound
returns-in-Ok-choose-clause-sound g c =
    let S = g.D.SaveDevice in let lines : ℕ = c.args.lines in let first : List ℕ = (S.state c.args.device.now).bytes in let mid = S.state c.sync.new.self in let two = S.state c.read_both.new.device in
    let since : two.bytes ≡ first = ap (λ (moment : Moment). moment.bytes) c.in-Ok-read_both.ensures.reads.same ∙ c.in-Ok.ensures.done in
    let size : length first ≡ device_size lines = omega (arith, c.len.ensures, c.device_size.ensures, c.if-len-device_size.false) in
    IfOk-weaker c.read_newest.result (λ it. IsRestored it lines two.bytes) (λ it. IsMemory lines it.lines.items × Fits it.head.newest.generation it.head.count)
    (λ it found. restored_sound lines two.bytes it (ap length since ∙ size) found) c.read_newest.ensures.found

pub returns-in-Ok-choose-clause-version : goal.returns-in-Ok-choose-clause-version
returns-in-Ok-choose-clause-version g c =
    let S = g.D.SaveDevice in let lines : ℕ = c.args.lines in let first : List ℕ = (S.state c.args.device.now).bytes in let two = S.state c.read_both.new.device in
    let since : two.bytes ≡ first = ap (λ (moment : Moment). moment.bytes) c.in-Ok-read_both.ensures.reads.same ∙ c.in-Ok.ensures.done in
    version_of_newest lines c.in-Ok-choose.head two.bytes first since c.read_newest.result c.read_newest.ensures.head c.read_newest.ensures.version

pub returns-in-Ok-choose-clause-refused : goal.returns-in-Ok-choose-clause-refused
returns-in-Ok-choose-clause-refused g c =
    let S = g.D.SaveDevice in let lines : ℕ = c.args.lines in let first : List ℕ = (S.state c.args.device.now).bytes in let mid = S.state c.sync.new.self in let two = S.state c.read_both.new.device in
    let since : two.bytes ≡ first = ap (λ (moment : Moment). moment.bytes) c.in-Ok-read_both.ensures.reads.same ∙ c.in-Ok.ensures.done in
    subst (λ (bytes : List ℕ). IfErr c.read_newest.result (λ error. Refuses error (restored lines bytes))) since c.read_newest.ensures.refused

pub returns-in-Ok-choose-clause-calls : goal.returns-in-Ok-choose-clause-calls
returns-in-Ok-choose-clause-calls g c =
    let S = g.D.SaveDevice in let lines : ℕ = c.args.lines in let first : List ℕ = (S.state c.args.device.now).bytes in let mid = S.state c.sync.new.self in let two = S.state c.read_both.new.device in
    let since : two.bytes ≡ first = ap (λ (moment : Moment). moment.bytes) c.in-Ok-read_both.ensures.reads.same ∙ c.in-Ok.ensures.done in
    let slot = c.in-Ok-choose.head.newest.slot in
    let behind : Option Header = header_of_reading (in_slot c.in-Ok-read_both.readings (other slot)) in
    let at : behind ≡ header_at lines (other slot) first = sym (c.in-Ok-read_both.ensures.readings.header (other slot)) ∙ ap (header_at lines (other slot)) c.in-Ok.ensures.done in
    let same = IfOk-weaker c.read_newest.result (λ it. it.head ≡ c.in-Ok-choose.head) (λ it. it.head.newest.slot ≡ slot) (λ it is. ap (λ (head : Head). head.newest.slot) is) c.read_newest.ensures.head in
    calls_of_newest lines (S.state c.args.device.now) mid two (S.state c.read_newest.new.device) c.in-Ok.ensures c.in-Ok-read_both.ensures.reads c.read_newest.result slot behind at same c.read_newest.ensures.bodies c.read_newest.ensures.reads

pub returns-in-Ok-choose-clause-same : goal.returns-in-Ok-choose-clause-same
returns-in-Ok-choose-clause-same g c =
    let S = g.D.SaveDevice in let lines : ℕ = c.args.lines in let first : List ℕ = (S.state c.args.device.now).bytes in let mid = S.state c.sync.new.self in let two = S.state c.read_both.new.device in
    let since : two.bytes ≡ first = ap (λ (moment : Moment). moment.bytes) c.in-Ok-read_both.ensures.reads.same ∙ c.in-Ok.ensures.done in
    ap (λ (moment : Moment). moment.bytes) c.read_newest.ensures.reads.same ∙ since

pub returns-in-Ok-choose-clause-any_moment : goal.returns-in-Ok-choose-clause-any_moment
returns-in-Ok-choose-clause-any_moment g c =
    let S = g.D.SaveDevice in let lines : ℕ = c.args.lines in let first : List ℕ = (S.state c.args.device.now).bytes in let mid = S.state c.sync.new.self in let two = S.state c.read_both.new.device in
    let since : two.bytes ≡ first = ap (λ (moment : Moment). moment.bytes) c.in-Ok-read_both.ensures.reads.same ∙ c.in-Ok.ensures.done in
    let last = S.state c.read_newest.new.device in
    sync_and_reads _ (S.state c.args.device.now) mid last _ c.in-Ok.ensures (reads_on 2 _ _ mid two last c.in-Ok-read_both.ensures.reads c.read_newest.ensures.reads)

pub returns-in-Ok-choose-clause-at_rest : goal.returns-in-Ok-choose-clause-at_rest
returns-in-Ok-choose-clause-at_rest g c =
    let S = g.D.SaveDevice in let lines : ℕ = c.args.lines in let first : List ℕ = (S.state c.args.device.now).bytes in let mid = S.state c.sync.new.self in let two = S.state c.read_both.new.device in
    let since : two.bytes ≡ first = ap (λ (moment : Moment). moment.bytes) c.in-Ok-read_both.ensures.reads.same ∙ c.in-Ok.ensures.done in
    let size : length first ≡ device_size lines = omega (arith, c.len.ensures, c.device_size.ensures, c.if-len-device_size.false) in
    let last = S.state c.read_newest.new.device in
    let still : last.bytes ≡ two.bytes = ap (λ (moment : Moment). moment.bytes) c.read_newest.ensures.reads.same in
    let settled = settled_same two last c.read_newest.ensures.reads.same (settled_same mid two c.in-Ok-read_both.ensures.reads.same c.in-Ok.ensures.settled) in
    IfOk-weaker c.read_newest.result (λ it. IsRestored it lines two.bytes) (λ it. (image : Image) → restored lines first ≡ Found it.head.newest.slot image → IsAtRestOn it.head.newest.slot image lines it.head.closed last)
    (λ it found image is. at_rest lines it image two last (ap length (still ∙ since) ∙ size) still settled found (ap (restored lines) (still ∙ since) ∙ is)) c.read_newest.ensures.found

pub returns-in-Err-clause-refused : goal.returns-in-Err-clause-refused
returns-in-Err-clause-refused g c =
    let S = g.D.SaveDevice in let lines : ℕ = c.args.lines in let first : List ℕ = (S.state c.args.device.now).bytes in let mid = S.state c.sync.new.self in let two = S.state c.read_both.new.device in
    let since : two.bytes ≡ first = ap (λ (moment : Moment). moment.bytes) c.in-Ok-read_both.ensures.reads.same ∙ c.in-Ok.ensures.done in
    subst (λ (bytes : List ℕ). Refuses c.refusal.result (restored lines bytes)) since c.refusal.ensures.refused

pub returns-in-Err-clause-calls : goal.returns-in-Err-clause-calls
returns-in-Err-clause-calls g c =
    let S = g.D.SaveDevice in let lines : ℕ = c.args.lines in let first : List ℕ = (S.state c.args.device.now).bytes in let mid = S.state c.sync.new.self in let two = S.state c.read_both.new.device in
    let since : two.bytes ≡ first = ap (λ (moment : Moment). moment.bytes) c.in-Ok-read_both.ensures.reads.same ∙ c.in-Ok.ensures.done in
    let size : length first ≡ device_size lines = omega (arith, c.len.ensures, c.device_size.ensures, c.if-len-device_size.false) in
    let both = c.in-Ok-read_both.readings in
    let are = subst (λ (bytes : List ℕ). AreReadings lines bytes both) (sym (ap (λ (moment : Moment). moment.bytes) c.in-Ok-read_both.ensures.reads.same)) c.in-Ok-read_both.ensures.readings in
    let at : header_of_reading both.first ≡ header_at lines First first = sym (c.in-Ok-read_both.ensures.readings.header First) ∙ ap (header_at lines First) c.in-Ok.ensures.done in
    calls_of_refusal lines (S.state c.args.device.now) mid two (S.state c.refusal.new.device) c.in-Ok.ensures c.in-Ok-read_both.ensures.reads c.refusal.result (header_of_reading both.first) at c.refusal.ensures.headers
    (λ none. no_pages lines two.bytes (ap length since ∙ size) both are (subst (λ (error : RestoreError). Refuses error (restored lines two.bytes)) none c.refusal.ensures.refused)) c.refusal.ensures.reads

pub returns-in-Err-clause-same : goal.returns-in-Err-clause-same
returns-in-Err-clause-same g c =
    let S = g.D.SaveDevice in let lines : ℕ = c.args.lines in let first : List ℕ = (S.state c.args.device.now).bytes in let mid = S.state c.sync.new.self in let two = S.state c.read_both.new.device in
    let since : two.bytes ≡ first = ap (λ (moment : Moment). moment.bytes) c.in-Ok-read_both.ensures.reads.same ∙ c.in-Ok.ensures.done in
    ap (λ (moment : Moment). moment.bytes) c.refusal.ensures.reads.same ∙ since

pub returns-in-Err-clause-any_moment : goal.returns-in-Err-clause-any_moment
returns-in-Err-clause-any_moment g c =
    let S = g.D.SaveDevice in let lines : ℕ = c.args.lines in let first : List ℕ = (S.state c.args.device.now).bytes in let mid = S.state c.sync.new.self in let two = S.state c.read_both.new.device in
    let since : two.bytes ≡ first = ap (λ (moment : Moment). moment.bytes) c.in-Ok-read_both.ensures.reads.same ∙ c.in-Ok.ensures.done in
    let last = S.state c.refusal.new.device in
    sync_and_reads _ (S.state c.args.device.now) mid last _ c.in-Ok.ensures (reads_on 2 _ _ mid two last c.in-Ok-read_both.ensures.reads c.refusal.ensures.reads)
