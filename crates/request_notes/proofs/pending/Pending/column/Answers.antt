use Rattle.std.proofs.Common.{refl}
use Rattle.request_notes.proofs.pending.Pending.column.Goals as goal

pub returns-in-Read : goal.returns-in-Read
returns-in-Read c = rw (c.bank_address-at.ensures, c.in-Read.is) refl
