use Rattle.interleave_map.proofs.Numbering.{cell_within, lines_by_channel, same_cell_same_place}
use Rattle.interleave_map.proofs.cells.cells_of_places.Goals as goal

pub returns-clause-have : goal.returns-clause-have
returns-clause-have c = cell_within

pub returns-clause-tell : goal.returns-clause-tell
returns-clause-tell c = same_cell_same_place

pub returns-clause-make : goal.returns-clause-make
returns-clause-make c = lines_by_channel
