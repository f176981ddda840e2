use Rattle.request_notes.proofs.BankBits.{bit_added}
use Rattle.request_notes.proofs.bank_set.BankSet.add.Goals as goal

pub returns : goal.returns
returns c other = bit_added c.args.self.now.bits c.args.bank other c.requires
