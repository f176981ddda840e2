use Rattle.channel_set.proofs.Common.{arith, refl, OnBackup, OnMains, [], get_or, slice_get-get_or}
use Rattle.channel_set.proofs.Carried.{carries-again}
use Rattle.channel_set.proofs.Lists.{moved-more, moved-none}
use Rattle.channel_set.proofs.Turned.{LosesMains, lost-seen, lost-waits, turned-are, turned-cost, turned-issued, turned-stage, turned-kept, turned-places, turned-shaped, turned-vec}
use Rattle.channel_set.proofs.set.ChannelSet.lose_mains.Goals as goal

pub loop-port-init : goal.loop-port-init
loop-port-init g c = moved-none (LosesMains g.K.ChannelPort) c.deref_mut-port-items.result.now

pub loop-port-preserved : goal.loop-port-preserved
loop-port-preserved g c =
    let ports = c.loop-port.port-items in
    let i = c.loop-port.port-index in
    let at = slice_get-get_or ports i c.port-item.result (omega (arith, c.loop-port-test.true, c.loop-port.auto.port-items)) in
    moved-more (LosesMains g.K.ChannelPort) i c.deref_mut-port-items.result.now ports (get_or ports i c.port-item.result) c.lose_mains.new.self c.loop-port.invariant at (record { is = c.lose_mains.ensures.lost; cost = c.lose_mains.ensures.cost; issued = c.lose_mains.ensures.issued; keeps = c.lose_mains.ensures.keeps })

pub invariant_of-self : goal.invariant_of-self
invariant_of-self g c =
    let L = g.K.ChannelPort in
    let channels = c.args.self.now in
    let turned = turned-vec L (λ waits. record waits { reads = [] }) (λ hold. hold) (λ stage. OnBackup) channels.ports c.deref_mut-port-items.result.now c.loop-port.port-items c.loop-port.port-index c.deref_mut-port-items.ensures.value c.deref_mut-port-items.ensures.len c.loop-port-test.false c.loop-port.invariant in
    record { are = turned-are L turned channels.terms channels.are; shaped = turned-shaped L turned channels.terms channels.costs channels.shaped; reckoned = channels.reckoned }

pub returns : goal.returns
returns g c =
    let L = g.K.ChannelPort in
    let channels = c.args.self.now in
    let turned = turned-vec L (λ waits. record waits { reads = [] }) (λ hold. hold) (λ stage. OnBackup) channels.ports c.deref_mut-port-items.result.now c.loop-port.port-items c.loop-port.port-index c.deref_mut-port-items.ensures.value c.deref_mut-port-items.ensures.len c.loop-port-test.false c.loop-port.invariant in
    record {
      reads = lost-waits L channels.ports.items _ turned;
      rest = lost-seen L channels _ turned;
      cost = turned-cost L turned;
      issued = record { lists = turned-issued L turned; checked = refl };
      backup = turned-stage L turned OnMains c.requires;
      keeps = carries-again L channels _ refl (turned-places L turned) (turned-kept L turned (λ w. refl));
    }
