use Rattle.std.proofs.Common.{◌≡◌, ◌≢◌, None, arith, drop, length, refl}
use Rattle.std.proofs.lemmas.List.{take_rest}
use Rattle.request_notes.specs.Notes.{IsGone, IsNoteOf}
use Rattle.request_notes.proofs.NoteLemmas.{gone_at, gone_elsewhere, gone_rise, gone_some, notes_put}
use Rattle.request_notes.proofs.notes.Notes.forget.Goals as goal

pub returns-then-is_none : goal.returns-then-is_none
returns-then-is_none c old at is rise are =
    let key = c.args.key.now in
    let keys = c.args.keys.now in
    let size : length c.args.self.now.banks ≡ 64 = omega arith in
    let gone : IsGone old keys (drop c.args.place keys) key = rw is (gone_at old c.args.place key rise at) in
    let none : c.without-note.result.oldest ≡ None = grind (arith, c.is_none.ensures, c.if-is_none.true) in
    notes_put old keys c.args.self.now key.bank c.without-note.result c.remove.new.self are (omega (arith, size, c.requires.bank)) (gone_elsewhere old keys (drop c.args.place keys) key gone)
    (c.without-note.ensures.note old keys (rw (take_rest keys c.args.place, is) (gone_rise old c.args.place key rise at)) (rw (take_rest keys c.args.place) gone) (are.each key.bank c.requires.bank))
    (λ b small differs. (λ h. ((c.remove.ensures b small).0 h).0, λ was. (c.remove.ensures b small).1 (was, differs)))
    (λ h. absurd (((c.remove.ensures key.bank c.requires.bank).0 h).1 refl), λ some. absurd (some none))

pub returns-else-is_none : goal.returns-else-is_none
returns-else-is_none c old at is rise are =
    let key = c.args.key.now in
    let keys = c.args.keys.now in
    let size : length c.args.self.now.banks ≡ 64 = omega arith in
    let gone : IsGone old keys (drop c.args.place keys) key = rw is (gone_at old c.args.place key rise at) in
    let some : c.without-note.result.oldest ≢ None = grind (arith, c.is_none.ensures, c.if-is_none.false) in
    let now : IsNoteOf keys key.bank c.without-note.result = c.without-note.ensures.note old keys (rw (take_rest keys c.args.place, is) (gone_rise old c.args.place key rise at)) (rw (take_rest keys c.args.place) gone) (are.each key.bank c.requires.bank) in
    notes_put old keys c.args.self.now key.bank c.without-note.result c.args.self.now.wanted are (omega (arith, size, c.requires.bank)) (gone_elsewhere old keys (drop c.args.place keys) key gone) now
    (λ b small differs. (λ h. h, λ h. h)) (λ _. some, λ _. (are.wanted key.bank c.requires.bank).1 (gone_some old keys (drop c.args.place keys) key key.bank _ _ gone (are.each key.bank c.requires.bank).oldest now.oldest some))
