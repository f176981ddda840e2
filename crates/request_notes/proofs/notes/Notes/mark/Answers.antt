use Rattle.std.proofs.Common.{Option, subst}
use Rattle.request_notes.specs.Notes.{IsMarked}
use Rattle.request_notes.specs.declared.key.Key.{Key}
use Rattle.request_notes.proofs.NoteLemmas.{joins_marked}
use Rattle.request_notes.proofs.notes.Notes.mark.Goals as goal

pub returns-in-Some : goal.returns-in-Some
returns-in-Some c old new is are = c.add.ensures old new (joins_marked old new c.in-Some.key (subst (λ (m : Option Key). IsMarked old m new) c.in-Some.is is)) are
