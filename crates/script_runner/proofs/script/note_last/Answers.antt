use Rattle.std.proofs.Common.{Option, subst}
use Rattle.module_core.specs.declared.module.Module.{Module}
use Rattle.script_runner.proofs.Ended.{notes_both}
use Rattle.script_runner.specs.Ended.{Notes, counts_if, counts_in, lists_in, of_counts, of_lives}
use Rattle.script_runner.proofs.script.note_last.Goals as goal

pub returns-clause-notes : goal.returns-clause-notes
returns-clause-notes g c =
    let kept = g.B.LifeBook.kept in
    notes_both (of_lives (lists_in c.args.session.now)) (of_counts (counts_in c.args.session.now)) (kept c.args.book.now) (kept c.note_life.new.book) (kept c.count.new.self)
    c.note_life.ensures.notes
    (subst (λ (life : Option (Module _ g.K.ChannelPort)). Notes (of_counts (counts_if g.K.ChannelPort life)) (kept c.note_life.new.book) (kept c.count.new.self)) c.life.ensures c.count.ensures)
