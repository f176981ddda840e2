use Rattle.crash_table.proofs.Blocks.{blocks_more}
use Rattle.crash_table.proofs.table.Table.add.Goals as goal

pub returns-clause-blocks : goal.returns-clause-blocks
returns-clause-blocks c = λ lines shown.
    blocks_more lines c.args.line c.args.tried.now c.in_ok-rows.rows.items c.args.self.now.blocks.items c.put_line.new.blocks.items shown c.in_ok-rows.ensures c.in_ok-put_line.ensures
