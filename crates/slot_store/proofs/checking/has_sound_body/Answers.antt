use Rattle.std.specs.Prelude.{None, Option}
use Rattle.std.specs.Str.{bytes_eq}
use Rattle.save_image.specs.Image.{digest_of}
use Rattle.slot_store.specs.Slots.{digest_fits}
use Rattle.slot_store.specs.Told.{digest_said, header_of_reading, pages_checked}
use Rattle.slot_store.specs.declared.headers.Reading.{Reading}
use Rattle.slot_store.specs.declared.headers.Reading.TheVariants as readings
use Rattle.slot_store.proofs.Common.{ℕ, ◌/◌, ◌∙◌, ◌≡◌, Bool, List, OnlyReads, Some, ap, arith, body_in, false, on_err, refl, subst, sym, true}
use Rattle.slot_store.proofs.Checked.{lines_read}
use Rattle.slot_store.proofs.RestoreCalls.{no_reads}
use Rattle.slot_store.proofs.checking.has_sound_body.Goals as goal

-- the pages of a reading that has no digest, and of one that has
pub pages_none : (lines : ℕ) (reading : Reading) → digest_said reading ≡ None → pages_checked lines (header_of_reading reading) ≡ 0
pages_none lines readings.Shut none = refl
pages_none lines readings.Broken none = refl
pages_none lines (readings.Image header) none = rw none refl

pub pages_some : (lines : ℕ) (reading : Reading) (digest : List ℕ) → digest_said reading ≡ Some digest → pages_checked lines (header_of_reading reading) ≡ lines / 64
pages_some lines readings.Shut digest some = absurd (let bad : ⊥ = cc in bad)
pages_some lines readings.Broken digest some = absurd (let bad : ⊥ = cc in bad)
pages_some lines (readings.Image header) digest some = rw some refl

pub returns-in_default-clause-sound : goal.returns-in_default-clause-sound
returns-in_default-clause-sound g c =
    let body = body_in c.args.lines c.args.slot (g.D.SaveDevice.state c.args.device.now).bytes in
    ap (λ (digest : Option (List ℕ)). digest_fits digest body) c.in_default.ensures

pub returns-in_default-clause-reads : goal.returns-in_default-clause-reads
returns-in_default-clause-reads g c =
    let old = g.D.SaveDevice.state c.args.device.now in
    subst (λ (n : ℕ). OnlyReads n true old old) (sym (pages_none c.args.lines c.args.reading (sym c.in_default.ensures))) (no_reads old)

pub returns-in_err-found-clause-reads : goal.returns-in_err-found-clause-reads
returns-in_err-found-clause-reads g c =
    let S = g.D.SaveDevice in let old = S.state c.args.device.now in let new = S.state c.body_digest.new.device in let lines : ℕ = c.args.lines in
    on_err c.from_residual.result (λ (good : Bool). OnlyReads (pages_checked lines (header_of_reading c.args.reading)) good old new) c.from_residual.ensures.0
    (subst (λ (n : ℕ). OnlyReads n false old new) (sym (pages_some lines c.args.reading c.in-Some.digest (sym c.in-Some.ensures))) c.in_err-found.ensures.reads)

pub returns-clause-reads : goal.returns-clause-reads
returns-clause-reads g c =
    let S = g.D.SaveDevice in let old = S.state c.args.device.now in let new = S.state c.body_digest.new.device in
    subst (λ (n : ℕ). OnlyReads n true old new) (sym (pages_some c.args.lines c.args.reading c.in-Some.digest (sym c.in-Some.ensures))) c.in_ok-found.ensures.reads

pub returns-clause-sound : goal.returns-clause-sound
returns-clause-sound g c =
    let lines : ℕ = c.args.lines in let seen : List ℕ = (g.D.SaveDevice.state c.args.device.now).bytes in let body = body_in lines c.args.slot seen in
    let found : c.in_ok-found.found ≡ digest_of body = c.in_ok-found.ensures.digest ∙ ap digest_of (lines_read lines c.start.result c.args.slot seen seen _ (omega (arith, c.requires.capacity.whole)) c.start.ensures refl refl) in
    c.eq.ensures ∙ ap (bytes_eq c.in-Some.digest) found ∙ ap (λ (digest : Option (List ℕ)). digest_fits digest body) c.in-Some.ensures
