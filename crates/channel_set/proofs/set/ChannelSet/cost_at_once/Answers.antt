use Rattle.energy_budget.specs.Costs.{close_cost}
use Rattle.channel_set.proofs.AtOnce.{paid-value}
use Rattle.channel_set.proofs.Common.{rules, ◌≡◌, ◌+◌, ◌*◌, ℕ, sym, ap, ◌∙◌, length, waits_in}
use Rattle.channel_set.proofs.set.ChannelSet.cost_at_once.Goals as goal

pub returns : goal.returns
returns g c =
    let L = g.K.ChannelPort in
    let channels = c.args.self.now in
    let count : c.len.result ≡ length channels.ports.items = search rules in
    let pending : ℕ = length (waits_in L channels.ports.items).writes in
    ap (λ n. n * c.cost.result + c.pending.result * c.cost-2.result) count
    ∙ ap (λ n. length channels.ports.items * n + c.pending.result * c.cost-2.result) c.cost.ensures.value
    ∙ ap (λ n. length channels.ports.items * close_cost channels.costs + n * c.cost-2.result) c.pending.ensures.is
    ∙ ap (λ n. length channels.ports.items * close_cost channels.costs + pending * n) c.cost-2.ensures.value
    ∙ sym (paid-value L g.met.K.ChannelPort.own_writes channels)
