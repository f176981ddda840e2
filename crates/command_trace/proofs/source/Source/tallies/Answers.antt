use Rattle.command_trace.proofs.source.Source.tallies.Goals as goal

pub returns : goal.returns
returns g c = (c.in_ok-listed.listed, c.in_ok-listed.ensures, c.in_ok-tallies.ensures)
