use Rattle.std.specs.List.{sum_by}
use Rattle.std.proofs.lemmas.List.{take_all}
use Rattle.std.proofs.lemmas.List.Concat.{length-flat_map}
use Rattle.channel_set.proofs.Common.{sym, ap, ◌∙◌, List, length}
use Rattle.channel_set.proofs.Counted.{writes_in}
use Rattle.channel_set.proofs.set.ChannelSet.pending.Goals as goal

pub returns-clause-is : goal.returns-clause-is
returns-clause-is g c =
    let pending = λ (ports : List g.row.K.Denot). sum_by (λ port. length (writes_in g.K.ChannelPort port)) ports in
    c.loop-port.invariant.0
    ∙ ap pending (take_all c.loop-port.port-index c.deref-port-items.result.now c.loop-port-test.false ∙ c.deref-port-items.ensures.value)
    ∙ sym (length-flat_map (writes_in g.K.ChannelPort) c.args.self.now.ports.items)
