use Rattle.energy_budget.specs.Costs.{AreReckonedFor}
use Rattle.energy_budget.specs.Gauge.{PaysCost}
use Rattle.ddr4_timing.specs.declared.timing.Checked.{Checked}
use Rattle.channel_set.proofs.AtOnce.{covered-paid, covers-once, drained-once, drains-once, each-once, refused-once}
use Rattle.channel_set.proofs.Carried.{carries-again}
use Rattle.channel_set.proofs.Common.{◌≡◌, ℕ, refl, sym, ap, subst, ◌∙◌, Err, Ok, Some, get_or, length, slice_get, slice_get-get_or}
use Rattle.channel_set.proofs.Counted.{reads_in}
use Rattle.channel_set.proofs.Drained.{drained-are, drained-kept, drained-places, drained-shaped}
use Rattle.channel_set.proofs.Lists.{none-of}
use Rattle.channel_set.proofs.set.ChannelSet.drain_at_once.Goals as goal

pub returns-in_err-pay-clause-drains : goal.returns-in_err-pay-clause-drains
returns-in_err-pay-clause-drains g c =
    let before = g.E.Energy.gauge c.args.energy.now in
    let later = g.E.Energy.gauge c.pay.new.self in
    let dark = c.in_err-pay.field-0.0 in
    refused-once g.K.ChannelPort (g.met.K.ChannelPort g.world.𝓛 g.world.𝓜 g.world.𝓡 ((λ s x. x), (λ x. x), (λ x. x), λ x. x)).own_writes c.args.self.now before later dark c.from_residual.result c.from_residual.ensures.0
    (subst (λ (cost : ℕ). PaysCost before cost (Err dark) later) c.cost_at_once.ensures c.in_err-pay.ensures)

pub drain_ports-requires-after_bounds : goal.drain_ports-requires-after_bounds
drain_ports-requires-after_bounds g c _ _ k d less =
    let L = g.K.ChannelPort in
    let channels = c.args.self.now in
    let was = c.deref_mut.result.now in
    let p = get_or was k d in
    let stands : slice_get channels.ports.items k ≡ Some p = ap (λ xs. slice_get xs k) (sym c.deref_mut.ensures.value) ∙ slice_get-get_or was k d less in
    record {
      backup = c.requires.backup k p stands;
      lost = none-of (reads_in L) channels.ports.items k p stands c.requires.lost;
      reckoned = subst (λ (checked : Checked). AreReckonedFor checked channels.costs) (sym (channels.are.each k p stands).checked) channels.reckoned;
    }

pub invariant_of-self : goal.invariant_of-self
invariant_of-self g c =
    let L = g.K.ChannelPort in
    let channels = c.args.self.now in
    let ports = channels.ports.items in
    let drained = drained-once L channels.costs channels c.deref_mut.result.now c.drain_ports.new.ports c.deref_mut.ensures.value c.deref_mut.ensures.len c.drain_ports.auto.ports (λ k p at. none-of (reads_in L) ports k p at c.requires.lost) c.drain_ports.ensures.drains in
    record { are = drained-are L (length ports) 0 ports _ drained channels.terms channels.are; shaped = drained-shaped L (length ports) 0 ports _ drained channels.terms channels.costs channels.shaped; reckoned = channels.reckoned }

pub returns-clause-drains : goal.returns-clause-drains
returns-clause-drains g c =
    let L = g.K.ChannelPort in
    let channels = c.args.self.now in
    let ports = channels.ports.items in
    let before = g.E.Energy.gauge c.args.energy.now in
    let later = g.E.Energy.gauge c.pay.new.self in
    let drained = drained-once L channels.costs channels c.deref_mut.result.now c.drain_ports.new.ports c.deref_mut.ensures.value c.deref_mut.ensures.len c.drain_ports.auto.ports (λ k p at. none-of (reads_in L) ports k p at c.requires.lost) c.drain_ports.ensures.drains in
    drains-once L (g.met.K.ChannelPort g.world.𝓛 g.world.𝓜 g.world.𝓡 ((λ s x. x), (λ x. x), (λ x. x), λ x. x)).own_writes channels before later _ drained
    (subst (λ (cost : ℕ). PaysCost before cost (Ok tt) later) c.cost_at_once.ensures c.in_ok-pay.ensures)

pub returns-clause-each : goal.returns-clause-each
returns-clause-each g c =
    let L = g.K.ChannelPort in
    let channels = c.args.self.now in
    each-once L channels.costs channels c.deref_mut.result.now c.drain_ports.new.ports c.deref_mut.ensures.value c.deref_mut.ensures.len c.drain_ports.auto.ports (λ k p at. none-of (reads_in L) channels.ports.items k p at c.requires.lost) c.drain_ports.ensures.drains

pub returns-clause-covers : goal.returns-clause-covers
returns-clause-covers g c =
    let L = g.K.ChannelPort in
    let channels = c.args.self.now in
    covered-paid L (g.met.K.ChannelPort g.world.𝓛 g.world.𝓜 g.world.𝓡 ((λ s x. x), (λ x. x), (λ x. x), λ x. x)).own_writes channels
    (covers-once L channels.costs channels c.deref_mut.result.now c.drain_ports.new.ports c.deref_mut.ensures.value c.deref_mut.ensures.len c.drain_ports.auto.ports (λ k p at. none-of (reads_in L) channels.ports.items k p at c.requires.lost) c.drain_ports.ensures.drains)

pub returns-clause-keeps : goal.returns-clause-keeps
returns-clause-keeps g c =
    let L = g.K.ChannelPort in
    let channels = c.args.self.now in
    let ports = channels.ports.items in
    let drained = drained-once L channels.costs channels c.deref_mut.result.now c.drain_ports.new.ports c.deref_mut.ensures.value c.deref_mut.ensures.len c.drain_ports.auto.ports (λ k p at. none-of (reads_in L) ports k p at c.requires.lost) c.drain_ports.ensures.drains in
    carries-again L channels _ refl (drained-places L (length ports) 0 ports _ drained) (drained-kept L (length ports) 0 ports _ drained)
