use Rattle.std.proofs.Common.{refl}
use Rattle.crash_table.proofs.Adding.{alike_outcomes}
use Rattle.crash_table.proofs.table.Block.join.Goals as goal

pub returns : goal.returns
returns c = record { first = refl; last = refl; same = alike_outcomes c.args.self.now.rows.items c.args.rows.now c.requires; added = c.add_rows.ensures }
