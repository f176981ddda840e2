use Rattle.gap_list.proofs.ShiftedLists.{removed_behind}
use Rattle.gap_list.proofs.moves.take_down.Goals as goal

pub returns-clause-left : goal.returns-clause-left
returns-clause-left g c = rw c.remove.ensures.items (removed_behind c.args.items.now.items c.args.start c.args.place c.requires)
