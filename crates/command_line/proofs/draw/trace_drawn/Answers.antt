use Rattle.command_line.proofs.draw.trace_drawn.Goals as goal

pub returns-in-Ok : goal.returns-in-Ok
returns-in-Ok g c = (c.in_ok-rules.rules, c.in_ok-rules.ensures.named, c.in-Ok.ensures)
