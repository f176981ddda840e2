use Rattle.std.proofs.lemmas.Nat.Bits.{bit_at-zero}
use Rattle.request_notes.proofs.bank_set.BankSet.none.Goals as goal

pub returns : goal.returns
returns c bank h = absurd (cc (h, bit_at-zero bank))
