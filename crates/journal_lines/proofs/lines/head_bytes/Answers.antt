use Rattle.journal_lines.proofs.Words.{written}
use Rattle.journal_lines.proofs.lines.head_bytes.Goals as goal

pub returns : goal.returns
returns c =
    written c.args.gone c.args.first c.args.used c.to_le_bytes.result c.to_le_bytes-2.result c.to_le_bytes-3.result c.put.new.line c.put-2.new.line c.put-3.new.line
    c.to_le_bytes.ensures c.to_le_bytes-2.ensures c.to_le_bytes-3.ensures c.put.ensures c.put-2.ensures c.put-3.ensures
