use Rattle.std.proofs.Common.{rules, subst}
use Rattle.ddr4_timing.specs.declared.timing.Checked.{Checked}
use Rattle.energy_budget.specs.Costs.{AreReckonedFor}
use Rattle.bench_timing.proofs.side_by_side.is_reckoned.Goals as goal

pub returns : goal.returns
returns c _ =
    let own : AreReckonedFor c.args.channel.now.checked c.of-own.result = subst (λ (k : Checked). AreReckonedFor k c.of-own.result) c.checked.ensures c.of-own.ensures.profile in
    record {
      channels = search (rules, own);
      ranks = search (rules, own);
      pages = search (rules, own);
      close = search (rules, own);
      entry = search (rules, own);
    }
