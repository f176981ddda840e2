use Rattle.command_trace.proofs.Following.{tells_fault, tells_lawful}
use Rattle.command_trace.proofs.front.CommandChecker.line.Goals as goal

pub returns-clause-none : goal.returns-clause-none
returns-clause-none c checked found f lawful = f.none ((tells_lawful checked c.args.self.now found f).1 lawful)

pub returns-clause-first : goal.returns-clause-first
returns-clause-first c checked found f broken = tells_fault checked c.args.self.now found f broken
