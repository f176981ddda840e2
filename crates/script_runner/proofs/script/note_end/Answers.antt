use Rattle.std.proofs.Common.{◌∙◌, Bool, [], if◌then◌else◌, subst, sym}
use Rattle.script_runner.proofs.Ended.{notes_nothing}
use Rattle.script_runner.specs.Ended.{Notes, lists_in, of_lives}
use Rattle.script_runner.proofs.script.note_end.Goals as goal

pub returns-then-not-begins_life-clause-notes : goal.returns-then-not-begins_life-clause-notes
returns-then-not-begins_life-clause-notes g c =
    let kept = g.B.LifeBook.kept c.args.book.now in
    subst (λ (begins : Bool). Notes (of_lives (if begins then lists_in c.args.session.now else [])) kept kept)
    (sym (sym c.begins_life.ensures ∙ c.if-not-begins_life.true)) (notes_nothing kept)

pub returns-clause-notes : goal.returns-clause-notes
returns-clause-notes g c =
    subst (λ (begins : Bool). Notes (of_lives (if begins then lists_in c.args.session.now else [])) (g.B.LifeBook.kept c.args.book.now) (g.B.LifeBook.kept c.note_life.new.book))
    (sym (sym c.begins_life.ensures ∙ c.if-not-begins_life.false)) c.note_life.ensures.notes
