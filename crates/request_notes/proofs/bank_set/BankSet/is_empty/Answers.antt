use Rattle.std.proofs.Common.{arith}
use Rattle.request_notes.proofs.BankBits.{some_bit}
use Rattle.request_notes.proofs.bank_set.BankSet.is_empty.Goals as goal

pub returns-clause-some : goal.returns-clause-some
returns-clause-some c is = some_bit c.args.self.now.bits (grind (arith, is)) (omega arith)
