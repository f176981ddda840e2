use Rattle.std.proofs.Common.{rules}
use Rattle.trace_statistics.proofs.Banks.{rank_more}
use Rattle.trace_statistics.proofs.rank.Rank.take_at.Goals as goal

pub returns-clause-stands : goal.returns-clause-stands
returns-clause-stands c before stands =
    rank_more c.args.at c.args.next.now before c.args.self.now c.slot_of-slot.result _ _ _ _ c.requires.bank c.requires.slot (search rules) (search rules) c.slot_of-slot.ensures.value
    c.after.ensures c.take.ensures stands
