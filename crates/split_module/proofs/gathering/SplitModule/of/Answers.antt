-- A module is taken apart.
use Rattle.std.proofs.Common.{rules, subst, sym}
use Rattle.module_saves.specs.Saving.{IsOfLines}
use Rattle.split_module.proofs.Gathered.{fits, stands_split}
use Rattle.split_module.proofs.gathering.SplitModule.of.Goals as goal

pub invariant_of-result : goal.invariant_of-result
invariant_of-result g c = record {
  running = subst (λ n. IsOfLines n c.split-channels.result.front.saves.saving) (sym c.lines-lines.ensures) c.split-channels.ensures.fit.running;
}

pub returns-clause-fit : goal.returns-clause-fit
returns-clause-fit g c = fits g.K.ChannelPort c.args.whole _ (search rules)

pub returns-clause-stands : goal.returns-clause-stands
returns-clause-stands g c = stands_split g.K.ChannelPort c.args.whole _ (search rules)
