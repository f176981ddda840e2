use Rattle.std.proofs.Common.{◌≡◌, inl, inr, arith, length, refl}
use Rattle.request_notes.specs.Notes.{IsFree}
use Rattle.request_notes.proofs.NoteLemmas.{elsewhere_same, never_free, notes_put, notes_same}
use Rattle.request_notes.proofs.notes.Notes.add.Goals as goal

pub returns-then-is_free : goal.returns-then-is_free
returns-then-is_free c old new joins are =
    let key = c.args.key.now in
    let free : IsFree key = c.if-is_free.ensures.0 refl in
    let size : length c.args.self.now.banks ≡ 64 = omega arith in
    notes_put old new c.args.self.now key.bank c.with.result c.add.new.self are (omega (arith, size, c.requires)) (elsewhere_same old new key joins) (c.with.ensures.note old new free joins (are.each key.bank c.requires))
    (λ b small differs. (λ h. elim ((c.add.ensures b).0 h) [ inl same ↦ absurd (differs same) | inr was ↦ was ], λ was. (c.add.ensures b).1 (inr was)))
    (λ _. c.with.ensures.oldest, λ _. (c.add.ensures key.bank).1 (inl refl))

pub returns-else-is_free : goal.returns-else-is_free
returns-else-is_free c old new joins are = notes_same old new c.args.self.now (never_free old new c.args.key.now joins (λ free. let e = c.if-is_free.ensures.1 free in absurd cc)) are
