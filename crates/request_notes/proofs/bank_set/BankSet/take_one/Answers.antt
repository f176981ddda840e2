use Rattle.std.proofs.Common.{arith}
use Rattle.request_notes.proofs.BankBits.{lowest_taken}
use Rattle.request_notes.proofs.bank_set.BankSet.take_one.Goals as goal

pub returns : goal.returns
returns c = lowest_taken c.args.self.now.bits (omega (arith, c.if-self-eq0.false)) (omega arith)
