use Rattle.std.proofs.Common.{◌+◌, drop, ap, ◌∙◌}
use Rattle.gap_list.proofs.ShiftedLists.{taken_out}
use Rattle.gap_list.proofs.moves.take_up.Goals as goal

pub returns-clause-left : goal.returns-clause-left
returns-clause-left g c = ap (drop (c.args.start + 1)) c.copy_within.ensures.items ∙ taken_out c.args.items.now.items c.args.start c.args.place c.requires
