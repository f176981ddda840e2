use Rattle.schedule_drawing.proofs.StoodFor.{found_lie}
use Rattle.schedule_drawing.proofs.stood_for.entries_drawn.Goals as goal

pub returns-in_ok-entries_found-clause-lie : goal.returns-in_ok-entries_found-clause-lie
returns-in_ok-entries_found-clause-lie c = found_lie c.args.rules.now.geometry c.args.found.now _ c.in_ok-entries_found.ensures c.requires.lie
