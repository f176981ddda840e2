use Rattle.journal_lines.proofs.Ringing.{line_read}
use Rattle.journal_lines.proofs.scanning.ring_line.Goals as goal

pub returns : goal.returns
returns c = line_read c.args.first c.args.number c.args.memory.now c.requires.first c.requires.number
