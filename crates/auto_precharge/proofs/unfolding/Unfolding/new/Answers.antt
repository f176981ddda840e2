use Rattle.std.proofs.Common.{refl}
use Rattle.auto_precharge.proofs.Settling.{from_none, none_waiting, placed_none}
use Rattle.auto_precharge.proofs.unfolding.Unfolding.new.Goals as goal

pub returns : goal.returns
returns c = record {
  keeps = c.new.ensures.ranks;
  closings = refl;
  from = from_none _ 128;
  placed = placed_none _ 128;
  quiet = λ _ i. none_waiting 128 i;
}
