use Rattle.channel_port.specs.Shape.{IsShape}
use Rattle.channel_set.specs.Ports.{ArePorts, shape_with}
use Rattle.channel_set.proofs.Common.{◌∙◌, refl, subst, sym}
use Rattle.channel_set.proofs.set.ChannelSet.copy.Goals as goal

pub invariant_of-result : goal.invariant_of-result
invariant_of-result g c =
    let it = c.args.self.now in
    let same = sym (c.in_ok-ports.ensures ∙ c.deref.ensures.value) in
    record {
      are = subst (λ ports. ArePorts g.K.ChannelPort it.terms ports) same it.are;
      shaped = subst (λ ports. IsShape (shape_with g.K.ChannelPort it.terms it.costs ports)) same it.shaped;
      reckoned = it.reckoned;
    }

pub returns : goal.returns
returns g c = record { ports = c.in_ok-ports.ensures ∙ c.deref.ensures.value; terms = refl; costs = refl }
