use Rattle.std.proofs.Common.{◌≡◌, ◌≢◌, Some, arith}
use Rattle.request_notes.specs.declared.pending.Kind.TheVariants.{Read, Write}
use Rattle.request_notes.proofs.NoteLemmas.{joins_hit, joins_miss, joins_oldest}
use Rattle.request_notes.proofs.notes.Note.with.Goals as goal

pub returns-then-ne-clause-note : goal.returns-then-ne-clause-note
returns-then-ne-clause-note c old new free joins is =
    let key = c.args.key.now in
    let note = c.args.self in
    let other : note.row ≢ Some key.row = grind (arith, c.ne.ensures, c.if-ne.true) in record {
      read = joins_miss old new key note.row note.read Read joins (λ h. other h.0) is.read;
      write = joins_miss old new key note.row note.write Write joins (λ h. other h.0) is.write;
      oldest = rw c.older.ensures (joins_oldest old new key note.oldest free joins is.oldest);
    }

pub returns-in-Read-clause-note : goal.returns-in-Read-clause-note
returns-in-Read-clause-note c old new free joins is =
    let key = c.args.key.now in
    let note = c.args.self in
    let row : note.row ≡ Some key.row = grind (arith, c.ne.ensures, c.if-ne.false) in record {
      read = rw c.older-in-Read.ensures (joins_hit old new key note.row note.read Read free joins row c.in-Read.is is.read);
      write = joins_miss old new key note.row note.write Write joins (λ h. absurd (cc (h.1, c.in-Read.is))) is.write;
      oldest = rw c.older.ensures (joins_oldest old new key note.oldest free joins is.oldest);
    }

pub returns-in-Write-clause-note : goal.returns-in-Write-clause-note
returns-in-Write-clause-note c old new free joins is =
    let key = c.args.key.now in
    let note = c.args.self in
    let row : note.row ≡ Some key.row = grind (arith, c.ne.ensures, c.if-ne.false) in record {
      read = joins_miss old new key note.row note.read Read joins (λ h. absurd (cc (h.1, c.in-Write.is))) is.read;
      write = rw c.older-in-Write.ensures (joins_hit old new key note.row note.write Write free joins row c.in-Write.is is.write);
      oldest = rw c.older.ensures (joins_oldest old new key note.oldest free joins is.oldest);
    }
