use Rattle.frfcfs.proofs.refreshes.MarginEnds.{drain_has_time, refresh_in_time}
use Rattle.frfcfs.proofs.refreshes.NextKeeps.{none_exactly}
use Rattle.frfcfs.proofs.margin.margin_gives_time.Goals as goal

pub returns : goal.returns
returns c = record { none = none_exactly; refresh = refresh_in_time; drain = drain_has_time }
