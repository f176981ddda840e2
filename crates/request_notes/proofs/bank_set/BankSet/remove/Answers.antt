use Rattle.request_notes.proofs.BankBits.{bit_gone_below}
use Rattle.request_notes.proofs.bank_set.BankSet.remove.Goals as goal

pub returns : goal.returns
returns c other low = bit_gone_below c.args.self.now.bits c.args.bank other c.requires low
