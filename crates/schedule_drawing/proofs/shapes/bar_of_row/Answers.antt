use Rattle.schedule_drawing.proofs.OpenRows.{shows_row}
use Rattle.schedule_drawing.proofs.shapes.bar_of_row.Goals as goal

pub returns-clause-shows : goal.returns-clause-shows
returns-clause-shows c =
    shows_row c.args.channel c.args.bank c.args.row c.args.from c.args.end c.args.behind.now c.of_bank.result c.closing.result c.bar_of.result
    c.of_bank.ensures c.closing.ensures c.bar_of.ensures
