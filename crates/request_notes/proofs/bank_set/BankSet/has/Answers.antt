use Rattle.std.proofs.Common.{arith, tests}
use Rattle.std.proofs.lemmas.Nat.{one_shl, pow_pos}
use Rattle.std.proofs.lemmas.Nat.Bits.{and_pow}
use Rattle.request_notes.proofs.bank_set.BankSet.has.Goals as goal

pub returns : goal.returns
returns c = grind (arith, tests, one_shl c.args.bank 64 c.requires, and_pow c.args.self.now.bits c.args.bank, pow_pos c.args.bank)
