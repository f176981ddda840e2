use Rattle.std.proofs.lemmas.Result.{on_ok_weaker}
use Rattle.report_json.proofs.Tables.{table_is}
use Rattle.report_json.proofs.crashes.write_table.Goals as goal

pub returns : goal.returns
returns g c =
    let contents = g.W.Write.contents in
    on_ok_weaker c.write_counts.result
    (table_is c.args.is_json c.args.table.now c.blocks-2.result.now c.counts.result (contents c.args.writer.now) (contents c.write_blocks.new.writer) (contents c.write_counts.new.writer)
    c.blocks-2.ensures c.counts.ensures c.in_ok-write_blocks.ensures) c.write_counts.ensures
