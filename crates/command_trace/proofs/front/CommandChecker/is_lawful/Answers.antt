use Rattle.command_trace.proofs.Following.{tells_lawful}
use Rattle.command_trace.proofs.front.CommandChecker.is_lawful.Goals as goal

pub returns : goal.returns
returns c checked found f = tells_lawful checked c.args.self.now found f
