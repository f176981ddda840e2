use Rattle.frfcfs.proofs.refreshes.MarginEnds.{new_keeps}
use Rattle.frfcfs.proofs.refreshes.NextKeeps.{next_keeps}
use Rattle.frfcfs.proofs.margin.margin_is_kept.Goals as goal

pub returns : goal.returns
returns c = record { new = new_keeps; next = next_keeps; asleep = λ c list all rank within awake. absurd (awake (all rank within)) }
