use Rattle.std.proofs.Common.{◌∙◌, subst, sym}
use Rattle.chan_core.specs.Running.{IsRunning}
use Rattle.chan_core.specs.State.{ChannelState}
use Rattle.chan_core.proofs.channel.Channel.copy.Goals as goal

pub invariant_of-result : goal.invariant_of-result
invariant_of-result c =
    let q = c.self.inside in
    subst (λ (memory : ChannelState). IsRunning (record { banks = q.banks; clock = q.clock; recent = c.in_ok-recent.recent; memory = memory })) (sym c.in_ok-memory.ensures)
    (subst (λ recent. IsRunning (record { banks = q.banks; clock = q.clock; recent = recent; memory = q.memory })) (sym c.in_ok-recent.ensures) c.self.invariant)

pub returns : goal.returns
returns c = c.in_ok-memory.ensures ∙ c.self.view_is
