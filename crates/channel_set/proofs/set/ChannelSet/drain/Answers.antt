use Rattle.energy_budget.specs.Actions.{drain_actions, total_cost}
use Rattle.channel_port.specs.Draining.{PaysInTurn, entries_in, pending_each}
use Rattle.channel_set.proofs.Common.{arith, ◌≡◌, ◌<◌, ◌≤◌, refl, ap, subst, Ok, flat_map, get_or, length, slice_get-get_or, take, waits_in}
use Rattle.channel_set.specs.Draining.{drains_cost}
use Rattle.channel_set.proofs.Carried.{carries-again}
use Rattle.channel_set.proofs.Costing.{cost-whole, none-ok}
use Rattle.channel_set.proofs.Counted.{reads_in, writes_in}
use Rattle.channel_set.proofs.Drained.{draining-more, draining-none, draining-refused, drained-are, drained-each, drained-kept, drained-places, drained-shaped, drained-then, drained-whole, drains-refused, drains-whole, refused-takes, stood}
use Rattle.channel_set.proofs.Lists.{none-of}
use Rattle.channel_set.proofs.set.ChannelSet.drain.Goals as goal

pub loop-port-init : goal.loop-port-init
loop-port-init g c = draining-none g.K.ChannelPort c.args.self.now (g.E.Energy.gauge c.args.energy.now) c.deref_mut-port-items.result.now c.deref_mut-port-items.ensures.value

pub drain-requires : goal.drain-requires
drain-requires g c =
    let L = g.K.ChannelPort in
    let channels = c.args.self.now in
    let now = c.loop-port.port-items in
    let i = c.loop-port.port-index in
    let p = get_or now i c.port-item.result in
    let at = slice_get-get_or now i c.port-item.result (omega (arith, c.loop-port-test.true, c.loop-port.auto.port-items)) in
    let stands = stood L channels (g.E.Energy.gauge c.args.energy.now) i now (g.E.Energy.gauge c.loop-port.energy) c.loop-port.invariant p p at in
    record { backup = c.requires.backup i p stands; lost = none-of (reads_in L) channels.ports.items i p stands c.requires.lost }

pub loop-port-preserved : goal.loop-port-preserved
loop-port-preserved g c =
    let L = g.K.ChannelPort in
    let now = c.loop-port.port-items in
    let i = c.loop-port.port-index in
    let at = slice_get-get_or now i c.port-item.result (omega (arith, c.loop-port-test.true, c.loop-port.auto.port-items)) in
    let did = c.in_ok-drain.ensures in
    let p = get_or now i c.port-item.result in
    draining-more L c.args.self.now (g.E.Energy.gauge c.args.energy.now) i now (g.E.Energy.gauge c.loop-port.energy) c.loop-port.invariant (get_or now i c.port-item.result) c.drain.new.self at g.met.K.ChannelPort.own_writes (g.E.Energy.gauge c.drain.new.energy)
    (record { drains = record { takes = (entries_in (take did.takes.paid (drain_actions (length (writes_in L p)))), did.takes.takes); rest = did.rest; keeps = did.keeps }; dry = did.dry; left = did.drained }) did.pays did.covers

pub invariant_of-self : goal.invariant_of-self
invariant_of-self g c =
    let L = g.K.ChannelPort in
    let channels = c.args.self.now in
    let ports = channels.ports.items in
    let i = c.loop-port.port-index in
    let drained = drained-whole L channels (g.E.Energy.gauge c.args.energy.now) i c.loop-port.port-items (g.E.Energy.gauge c.loop-port.energy) c.deref_mut-port-items.result.now c.loop-port.invariant c.deref_mut-port-items.ensures.value c.deref_mut-port-items.ensures.len c.loop-port-test.false in
    record { are = drained-are L i 0 ports _ drained channels.terms channels.are; shaped = drained-shaped L i 0 ports _ drained channels.terms channels.costs channels.shaped; reckoned = channels.reckoned }

pub invariant_of-self-in-Break-1 : goal.invariant_of-self-in-Break-1
invariant_of-self-in-Break-1 g c =
    let L = g.K.ChannelPort in
    let channels = c.args.self.now in
    let ports = channels.ports.items in
    let now = c.loop-port.port-items in
    let i = c.loop-port.port-index in
    let at = slice_get-get_or now i c.port-item.result (omega (arith, c.loop-port-test.true, c.loop-port.auto.port-items)) in
    let did = c.drain.ensures in
    let p = get_or now i c.port-item.result in
    let gone = entries_in (take did.takes.paid (drain_actions (length (writes_in L p)))) in
    let drained = drained-then L channels (g.E.Energy.gauge c.args.energy.now) i now (g.E.Energy.gauge c.loop-port.energy) c.loop-port.invariant (get_or now i c.port-item.result) c.drain.new.self at c.deref_mut-port-items.result.now c.deref_mut-port-items.ensures.value c.deref_mut-port-items.ensures.len
    (record { takes = (gone, did.takes.takes); rest = did.rest; keeps = did.keeps }) gone did.takes.takes.writes in
    record { are = drained-are L i gone ports _ drained channels.terms channels.are; shaped = drained-shaped L i gone ports _ drained channels.terms channels.costs channels.shaped; reckoned = channels.reckoned }

pub returns-in_err-drain : goal.returns-in_err-drain
returns-in_err-drain g c =
    let L = g.K.ChannelPort in
    let channels = c.args.self.now in
    let before = g.E.Energy.gauge c.args.energy.now in
    let mid = g.E.Energy.gauge c.loop-port.energy in
    let later = g.E.Energy.gauge c.drain.new.energy in
    let dark = c.in_err-drain.field-0.0 in
    let now = c.loop-port.port-items in
    let i = c.loop-port.port-index in
    let p = get_or now i c.port-item.result in
    let at = slice_get-get_or now i c.port-item.result (omega (arith, c.loop-port-test.true, c.loop-port.auto.port-items)) in
    let did = c.in_err-drain.ensures in
    let gone = entries_in (take did.takes.paid (drain_actions (length (writes_in L p)))) in
    let drained = drained-then L channels before i now mid c.loop-port.invariant p c.drain.new.self at c.deref_mut-port-items.result.now c.deref_mut-port-items.ensures.value c.deref_mut-port-items.ensures.len (record { takes = (gone, did.takes.takes); rest = did.rest; keeps = did.keeps }) gone did.takes.takes.writes in
    let less : i < length channels.ports.items = omega (arith, c.loop-port-test.true, ap length c.deref_mut-port-items.ensures.value) in
    let pays = draining-refused L channels before i now mid c.loop-port.invariant p c.drain.new.self at g.met.K.ChannelPort.own_writes dark later less c.in_err-drain.ensures.pays in
    let takes = refused-takes L channels before i now mid c.loop-port.invariant p c.drain.new.self at g.met.K.ChannelPort.own_writes dark later _ did.takes did.pays drained in
    record {
      drains = drains-refused L channels i gone _ drained before c.from_residual.result dark later c.from_residual.ensures.0 pays takes;
      each = none-ok _ c.from_residual.result c.from_residual.ensures.0;
      covers = none-ok _ c.from_residual.result c.from_residual.ensures.0;
      keeps = carries-again L channels _ refl (drained-places L i gone channels.ports.items _ drained) (drained-kept L i gone channels.ports.items _ drained);
    }

pub returns : goal.returns
returns g c =
    let L = g.K.ChannelPort in
    let channels = c.args.self.now in
    let before = g.E.Energy.gauge c.args.energy.now in
    let later = g.E.Energy.gauge c.loop-port.energy in
    let i = c.loop-port.port-index in
    let drained = drained-whole L channels before i c.loop-port.port-items later c.deref_mut-port-items.result.now c.loop-port.invariant c.deref_mut-port-items.ensures.value c.deref_mut-port-items.ensures.len c.loop-port-test.false in
    let all : length channels.ports.items ≤ i = omega (arith, c.loop-port-test.false, ap length c.deref_mut-port-items.ensures.value) in
    let count : i ≡ length channels.ports.items = omega (arith, all, c.loop-port.auto.port-index-end, ap length c.deref_mut-port-items.ensures.value) in
    record {
      drains = drains-whole L channels i 0 _ drained g.met.K.ChannelPort.own_writes before later (subst (λ n. PaysInTurn channels.costs (flat_map drain_actions (pending_each n (waits_in L channels.ports.items).writes)) before (Ok tt) later) count c.loop-port.invariant.pays) all;
      each = drained-each L channels before i c.loop-port.port-items later c.deref_mut-port-items.result.now c.loop-port.invariant c.deref_mut-port-items.ensures.value c.deref_mut-port-items.ensures.len c.loop-port-test.false;
      covers =
          let paid = subst (λ n. drains_cost L (take i channels.ports.items) channels.costs.numbers ≤ total_cost channels.costs (flat_map drain_actions (pending_each n (waits_in L channels.ports.items).writes))) count c.loop-port.invariant.covered in
          omega (arith, paid, cost-whole L channels.costs.numbers channels.ports.items i count);
      keeps = carries-again L channels _ refl (drained-places L i 0 channels.ports.items _ drained) (drained-kept L i 0 channels.ports.items _ drained);
    }
