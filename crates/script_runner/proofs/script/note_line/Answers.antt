use Rattle.std.proofs.Common.{Option, subst}
use Rattle.module_core.specs.declared.module.Module.{Module}
use Rattle.script_runner.proofs.Ended.{notes_both}
use Rattle.script_runner.specs.Ended.{Notes, counts_if, counts_in, ended_by, of_counts, of_lives}
use Rattle.script_runner.proofs.script.note_line.Goals as goal

pub returns-clause-notes : goal.returns-clause-notes
returns-clause-notes g c =
    let kept = g.B.LifeBook.kept in
    notes_both (of_counts (counts_in c.args.session.now)) (of_lives (ended_by c.args.line c.args.session.now)) (kept c.args.book.now) (kept c.count.new.self) (kept c.note_end.new.book)
    (subst (λ (life : Option (Module _ g.K.ChannelPort)). Notes (of_counts (counts_if g.K.ChannelPort life)) (kept c.args.book.now) (kept c.count.new.self)) c.life.ensures c.count.ensures)
    c.note_end.ensures.notes
