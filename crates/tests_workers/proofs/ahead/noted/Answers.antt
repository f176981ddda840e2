use Rattle.std.proofs.Common.{List, ap, slice_get, subst, sym, ◌∙◌}
use Rattle.channel_port.specs.Shape.{IsShape}
use Rattle.channel_set.specs.Ports.{ArePorts, shape_with}
use Rattle.channel_set.specs.declared.terms.PortTerms.{PortTerms}
use Rattle.energy_budget.specs.declared.costs.Costs.{Costs}
use Rattle.tests_workers.proofs.ahead.noted.Goals as goal

pub new-requires-clause-ports : goal.new-requires-clause-ports
new-requires-clause-ports g c =
    let apart = c.take_apart-ports in
    let channels = c.args.channels in
    subst (λ (items : List g.row.K.Denot). ArePorts g.K.ChannelPort apart.result.terms items) (sym (c.noted_ports.ensures ∙ ap (λ ports. ports.items) apart.ensures.ports))
    (subst (λ (t : PortTerms). ArePorts g.K.ChannelPort t channels.ports.items) (sym apart.ensures.terms) channels.are)

pub new-requires-clause-shape : goal.new-requires-clause-shape
new-requires-clause-shape g c =
    let L = g.K.ChannelPort in
    let apart = c.take_apart-ports in
    let channels = c.args.channels in
    subst (λ (items : List g.row.K.Denot). IsShape (shape_with L apart.result.terms apart.result.costs items)) (sym (c.noted_ports.ensures ∙ ap (λ ports. ports.items) apart.ensures.ports))
    (subst (λ (t : PortTerms). IsShape (shape_with L t apart.result.costs channels.ports.items)) (sym apart.ensures.terms)
    (subst (λ (k : Costs). IsShape (shape_with L channels.terms k channels.ports.items)) (sym apart.ensures.costs) channels.shaped))

pub returns : goal.returns
returns g c =
    let same = c.noted_ports.ensures ∙ ap (λ ports. ports.items) c.take_apart-ports.ensures.ports in
    c.new.ensures.mains (λ number port at. c.requires number port (ap (λ (items : List g.row.K.Denot). slice_get items number) (sym same) ∙ at))
