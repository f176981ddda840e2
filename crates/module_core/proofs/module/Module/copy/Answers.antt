use Rattle.module_core.proofs.Copies.{is_copy, parts_fit}
use Rattle.module_core.proofs.module.Module.copy.Goals as goal

pub invariant_of-result : goal.invariant_of-result
invariant_of-result g c =
    let fit = parts_fit g.K.ChannelPort c.args.self.now c.copy-front.result c.in_ok-channels.channels c.copy-front.ensures c.in_ok-channels.ensures in
    record { below = fit.below; mains = fit.mains; running = fit.running }

pub returns : goal.returns
returns g c = is_copy g.K.ChannelPort c.args.self.now _ (record { front = c.copy-front.ensures; channels = c.in_ok-channels.ensures })
