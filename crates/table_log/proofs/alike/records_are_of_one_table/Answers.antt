use Rattle.table_log.proofs.Spelling.{tables_alike}
use Rattle.table_log.proofs.alike.records_are_of_one_table.Goals as goal

pub returns : goal.returns
returns c = record { alike = tables_alike }
