use Rattle.std.proofs.Common.{refl, rules}
use Rattle.all_faults.proofs.LeftLemmas.{row_put}
use Rattle.all_faults.proofs.left.Left.put_row.Goals as goal

pub returns-then-lies_in-clause-rows : goal.returns-then-lies_in-clause-rows
returns-then-lies_in-clause-rows c b was there keeps = λ bank banks.
    row_put c.args.c.now.geometry c.args.self.now.ranks c.args.at b c.args.row was bank _ banks _ c.args.c.now.few_banks (c.if-lies_in.ensures.0 refl) there (search rules) c.put.ensures (keeps bank banks)
