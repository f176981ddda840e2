use Rattle.std.proofs.Common.{refl}
use Rattle.request_notes.proofs.pending.Pending.act.Goals as goal

pub returns : goal.returns
returns c = rw c.bank_address.ensures refl
