use Rattle.table_log.proofs.Surviving.{table_survives}
use Rattle.table_log.proofs.survival.tables_survive_any_stop.Goals as goal

pub returns : goal.returns
returns c = record { life = table_survives }
