use Rattle.command_line.proofs.draw.script_drawn.Goals as goal

pub returns-in-Ok : goal.returns-in-Ok
returns-in-Ok g c = (c.in_ok-profile.profile, c.in_ok-profile.ensures.named, c.in-Ok.ensures)
