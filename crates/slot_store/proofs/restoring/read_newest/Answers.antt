use Rattle.std.specs.Prelude.{None, Option}
use Rattle.std.proofs.lemmas.Result.{err_from_is_err_and}
use Rattle.slot_store.specs.Slots.{slot_state}
use Rattle.slot_store.specs.Told.{IsHeadOf, damaged_of, header_of_reading, in_slot, is_sound, pages_checked, version_said}
use Rattle.slot_store.specs.declared.headers.Readings.{Readings}
use Rattle.slot_store.proofs.Common.{ℕ, ◌/◌, ◌∙◌, ◌≡◌, Bool, First, List, Moment, Second, Slot, Some, ap, arith, body_in, false, length, other, reads_on, refl, restored, subst, sym, true}
use Rattle.slot_store.proofs.Checked.{damaged_slot, head_version, lines_read, none_damaged, sound_head}
use Rattle.slot_store.proofs.Picked.{failed}
use Rattle.slot_store.proofs.RestoreCalls.{failed_bodies, newest_failed}
use Rattle.slot_store.proofs.restoring.read_newest.Goals as goal

pub returns-in_err-memory-clause-refused : goal.returns-in_err-memory-clause-refused
returns-in_err-memory-clause-refused g c =
    let error = c.in_err-memory.field-0.0 in
    let p = err_from_is_err_and c.from_residual.result c.from_residual.ensures.1 in
    rw (p.1, p.2) (failed error (restored c.args.lines (g.D.SaveDevice.state c.args.device.now).bytes) c.in_err-memory.ensures.failed)

pub returns-in_err-memory-clause-bodies : goal.returns-in_err-memory-clause-bodies
returns-in_err-memory-clause-bodies g c =
    let p = err_from_is_err_and c.from_residual.result c.from_residual.ensures.1 in
    rw (p.1, p.2) (failed_bodies c.in_err-memory.field-0.0 c.in_err-memory.ensures.failed)

pub returns-in_err-memory-clause-reads : goal.returns-in_err-memory-clause-reads
returns-in_err-memory-clause-reads g c =
    let S = g.D.SaveDevice in let lines = c.args.lines in
    let p = err_from_is_err_and c.from_residual.result c.from_residual.ensures.1 in
    rw (p.1, p.2) (newest_failed c.read_pages.result c.in_err-memory.field-0.0 c.in_err-memory.was lines (header_of_reading (in_slot c.args.readings (other c.args.head.newest.slot))) (S.state c.args.device.now) (S.state c.read_pages.new.device) c.in_err-memory.ensures.failed c.read_pages.ensures.reads)

pub check_both-requires-clause-size : goal.check_both-requires-clause-size
check_both-requires-clause-size g c = ap (λ (moment : Moment). length moment.bytes) c.in_ok-memory.ensures.reads.same ∙ c.requires.size

pub returns-in_default-clause-reads : goal.returns-in_default-clause-reads
returns-in_default-clause-reads g c =
    let S = g.D.SaveDevice in let lines = c.args.lines in
    reads_on (lines / 64) (pages_checked lines (header_of_reading (in_slot c.args.readings (other c.args.head.newest.slot)))) false (S.state c.args.device.now) (S.state c.read_pages.new.device) (S.state c.check_both.new.device)
    c.in_ok-memory.ensures.reads c.in_default.ensures.reads

-- the slot that is named, or none, by the lines that were read
named : (lines : ℕ) (readings : Readings) (slot : Slot) (seen again : List ℕ) (memory : List (List ℕ)) (here there : Bool) (bad : Option Slot) → again ≡ seen → memory ≡ body_in lines slot seen
    → here ≡ is_sound (in_slot readings slot) memory → there ≡ is_sound (in_slot readings (other slot)) (body_in lines (other slot) again) → bad ≡ damaged_of slot here there
    → damaged_of slot (is_sound (in_slot readings slot) (body_in lines slot seen)) (is_sound (in_slot readings (other slot)) (body_in lines (other slot) seen)) ≡ bad
named lines readings slot seen again memory here there bad same lines_are here_is there_is bad_is =
    sym (bad_is
    ∙ ap (λ (b : Bool). damaged_of slot b there) (here_is ∙ ap (λ (m : List (List ℕ)). is_sound (in_slot readings slot) m) lines_are)
    ∙ ap (λ (b : Bool). damaged_of slot (is_sound (in_slot readings slot) (body_in lines slot seen)) b) (there_is ∙ ap (λ (bytes : List ℕ). is_sound (in_slot readings (other slot)) (body_in lines (other slot) bytes)) same))

pub returns-in-Some-clause-refused : goal.returns-in-Some-clause-refused
returns-in-Some-clause-refused g c =
    let S = g.D.SaveDevice in let lines : ℕ = c.args.lines in let seen : List ℕ = (S.state c.args.device.now).bytes in let slot = c.args.head.newest.slot in let readings = c.args.readings in
    let again : (S.state c.read_pages.new.device).bytes ≡ seen = ap (λ (moment : Moment). moment.bytes) c.in_ok-memory.ensures.reads.same in
    let lines_are : c.in_ok-memory.memory.items ≡ body_in lines slot seen = lines_read lines c.start.result slot seen seen c.in_ok-memory.memory.items (omega (arith, c.requires.capacity.whole)) c.start.ensures refl c.in_ok-memory.ensures.lines in
    damaged_slot lines seen c.requires.size readings c.requires.readings c.args.head (c.requires.chosen (body_in lines First seen) (body_in lines Second seen)) slot c.in-Some.slot
    (named lines readings slot seen (S.state c.read_pages.new.device).bytes c.in_ok-memory.memory.items c.in-Ok.sound.here c.in-Ok.sound.there (Some c.in-Some.slot) again lines_are
    (c.in-Ok.ensures.here ∙ ap (λ (m : List (List ℕ)). is_sound (in_slot readings slot) m) c.deref.ensures.value) c.in-Ok.ensures.there c.in-Some.ensures)

pub returns-in-Some-clause-reads : goal.returns-in-Some-clause-reads
returns-in-Some-clause-reads g c =
    let S = g.D.SaveDevice in let lines : ℕ = c.args.lines in
    reads_on (lines / 64) (pages_checked lines (header_of_reading (in_slot c.args.readings (other c.args.head.newest.slot)))) true (S.state c.args.device.now) (S.state c.read_pages.new.device) (S.state c.check_both.new.device)
    c.in_ok-memory.ensures.reads c.in-Ok.ensures.reads

pub returns-clause-reads : goal.returns-clause-reads
returns-clause-reads g c =
    let S = g.D.SaveDevice in let lines : ℕ = c.args.lines in
    reads_on (lines / 64) (pages_checked lines (header_of_reading (in_slot c.args.readings (other c.args.head.newest.slot)))) true (S.state c.args.device.now) (S.state c.read_pages.new.device) (S.state c.check_both.new.device)
    c.in_ok-memory.ensures.reads c.in-Ok.ensures.reads

pub returns-clause-version : goal.returns-clause-version
returns-clause-version g c =
    let lines : ℕ = c.args.lines in let seen : List ℕ = (g.D.SaveDevice.state c.args.device.now).bytes in let readings = c.args.readings in
    c.version.ensures ∙ ap version_said c.of.ensures
    ∙ head_version lines seen c.requires.size readings c.requires.readings c.args.head (c.requires.chosen (body_in lines First seen) (body_in lines Second seen))

pub returns-clause-found : goal.returns-clause-found
returns-clause-found g c =
    let S = g.D.SaveDevice in let lines : ℕ = c.args.lines in let seen : List ℕ = (S.state c.args.device.now).bytes in let head = c.args.head in let slot = head.newest.slot in let readings = c.args.readings in
    let again : (S.state c.read_pages.new.device).bytes ≡ seen = ap (λ (moment : Moment). moment.bytes) c.in_ok-memory.ensures.reads.same in
    let lines_are : c.in_ok-memory.memory.items ≡ body_in lines slot seen = lines_read lines c.start.result slot seen seen c.in_ok-memory.memory.items (omega (arith, c.requires.capacity.whole)) c.start.ensures refl c.in_ok-memory.ensures.lines in
    let none = named lines readings slot seen (S.state c.read_pages.new.device).bytes c.in_ok-memory.memory.items c.in-Ok.sound.here c.in-Ok.sound.there None again lines_are
    (c.in-Ok.ensures.here ∙ ap (λ (m : List (List ℕ)). is_sound (in_slot readings slot) m) c.deref.ensures.value) c.in-Ok.ensures.there c.in_default-damaged.ensures in
    let both = none_damaged slot _ _ none in
    subst (λ (memory : List (List ℕ)). IsHeadOf head memory (restored lines seen) (slot_state lines (other slot) seen)) (sym lines_are)
    (sound_head lines seen c.requires.size readings c.requires.readings head (c.requires.chosen (body_in lines First seen) (body_in lines Second seen)) slot both.0 both.1)
