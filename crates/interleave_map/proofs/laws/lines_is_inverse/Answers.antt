use Rattle.interleave_map.proofs.Numbering.{lines_are_inverse}
use Rattle.interleave_map.proofs.laws.lines_is_inverse.Goals as goal

pub returns : goal.returns
returns c checked = lines_are_inverse checked.geometry checked.is_small
