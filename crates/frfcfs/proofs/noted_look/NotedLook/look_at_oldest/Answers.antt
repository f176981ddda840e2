use Rattle.std.proofs.Common.{◌≡◌, ℕ, Option, None, ap, ◌∙◌, subst, sym}
use Rattle.request_notes.specs.Notes.{IsOfBank, IsOldestSeq}
use Rattle.frfcfs.proofs.Common.{Act, BankAddress, Command, Pre, least_clock}
use Rattle.frfcfs.proofs.SoonBanks.{columns_none, row_command_of, rows_gone, rows_seen}
use Rattle.frfcfs.proofs.noted_look.NotedLook.look_at_oldest.Goals as goal
use Rattle.frfcfs.proofs.noted_look.NotedLook.look_at_oldest.Goals.{in-None, in-Some-row}

pub returns-after-note-2-clause-soonest : goal.returns-after-note-2-clause-soonest
returns-after-note-2-clause-soonest c list pending keys last limit n left rest s noted at taken before =
    let b = c.args.banks.now.checked in
    let note = c.args.note.now in
    let look = c.args.self.now in
    let cmd : c.match-note-2.cmd ≡ row_command_of note.row n = elim c.match-note-2.branch [
      | in-None w ↦ w.cmd-is ∙ (ap (λ (a : BankAddress). Act a 0) at ∙ ap (λ (r : Option ℕ). row_command_of r n) (sym w.in-None.is))
      | in-Some-row w ↦ w.cmd-is ∙ (ap Pre at ∙ ap (λ (r : Option ℕ). row_command_of r n) (sym w.in-Some-row.is))
    ] in
    let clock : c.least_clock-clock.result ≡ least_clock b.timing list (row_command_of note.row n) = c.least_clock-clock.ensures list s ∙ ap (λ (x : Command). least_clock b.timing list x) cmd in
    let first = subst (λ (o : Option ℕ). IsOldestSeq (IsOfBank keys n) o) c.in-Some.is noted.told.oldest in record {
      column = columns_none b list pending keys c.args.now last limit n c.args.end left rest note look.column noted c.requires.unhit.0 c.requires.unhit.1 taken before.column;
      row = rows_seen b list pending keys c.args.now last limit n c.args.end c.in-Some.seq c.least_clock-clock.result c.max.result left rest note look.row _ s.lawful noted c.requires.unhit.0 c.requires.unhit.1 first clock c.max.ensures c.offer.ensures taken before.row;
    }

pub returns-in_default-clause-soonest : goal.returns-in_default-clause-soonest
returns-in_default-clause-soonest c list pending keys last limit n left rest s noted at taken before =
    let b = c.args.banks.now.checked in
    let note = c.args.note.now in
    let look = c.args.self.now in
    let none : note.oldest ≡ None = c.in_default.is in
    let first = subst (λ (o : Option ℕ). IsOldestSeq (IsOfBank keys n) o) none noted.told.oldest in record {
      column = columns_none b list pending keys c.args.now last limit n c.args.end left rest note look.column noted c.requires.unhit.0 c.requires.unhit.1 taken before.column;
      row = rows_gone b list pending keys c.args.now last limit n c.args.end left rest note look.row noted first taken before.row;
    }
