use Rattle.std.proofs.Common.{refl, arith}
use Rattle.ddr4_timing.specs.Floors.{greatest, window}
use Rattle.ddr4_timing.specs.Lawful.{last_ref, ref_count}
use Rattle.trace_statistics.specs.Margins.{turns}
use Rattle.trace_statistics.proofs.margins.RankMargins.new.Goals as goal

pub returns : goal.returns
unfolding turns window greatest last_ref ref_count
returns c rank = record {
  margins = record { refreshes = refl; last = refl; longest = refl; refresh = refl; window = refl };
  deadline = omega arith;
  ends = record { fourth = refl; third = refl; second = refl; last = refl };
}
