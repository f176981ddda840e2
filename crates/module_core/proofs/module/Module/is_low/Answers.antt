use Rattle.nv_machine.specs.Refusals.{need_for}
use Rattle.module_core.proofs.Common.{ap, setup_of, shape_of, ◌∙◌}
use Rattle.module_core.proofs.ToldFronts.{told_pending}
use Rattle.module_core.proofs.module.Module.is_low.Goals as goal

pub returns-clause-low : goal.returns-clause-low
returns-clause-low g c = λ m h.
    let L = g.K.ChannelPort in let it = c.args.self.now in
    c.is_low.ensures.low (shape_of L it.channels) m h.front (c.need_for.ensures.value ∙ ap (need_for (setup_of L it)) (told_pending L it m h c.pending.result c.pending.ensures.is))
