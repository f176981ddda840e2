use Rattle.command_line.proofs.Stores.{one_more}
use Rattle.command_line.proofs.store.answer_contents.Goals as goal

pub loop-line-preserved : goal.loop-line-preserved
loop-line-preserved g c =
    let answers = g.R.Report.answers in
    one_more c.args.memory.now c.loop-line.line (answers c.args.report.now) (answers c.loop-line.report) (answers c.answer_content.new.report)
    c.loop-line.invariant c.in_ok-answer_content.ensures
