use Rattle.std.proofs.Common.{refl, sym}
use Rattle.std.proofs.Math.Bool.{or-true}
use Rattle.ddr4_timing.proofs.Common.{Sre}
use Rattle.ddr4_timing.proofs.RankSteps.{banks_kept, groups_kept, kept, refresh_kept, window_kept}
use Rattle.ddr4_timing.proofs.rank.RankState.take_sre.Goals as goal

pub returns : goal.returns
returns c = record { rows = λ at slot same. refl; cells = record { banks = banks_kept _ _ _; group_act = groups_kept _ (Sre c.args.rank) _; group_rd = groups_kept _ (Sre c.args.rank) _; group_wr = groups_kept _ (Sre c.args.rank) _; act = kept _ _; pre_all = kept _ _; idle = kept _ _ }; history = record { windows = λ list was. window_kept _ _ _ list _ _ refl was; refreshes = λ list was keeps. refresh_kept _ _ _ list _ _ refl was; asleep = sym (or-true _) } }
