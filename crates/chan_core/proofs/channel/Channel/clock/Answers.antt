use Rattle.std.proofs.Common.{ap, ◌∙◌}
use Rattle.chan_core.specs.State.{clock_of}
use Rattle.chan_core.proofs.channel.Channel.clock.Goals as goal

pub returns : goal.returns
returns c = record { is = c.self.invariant.clock ∙ ap clock_of c.self.view_is; early = c.self.invariant.early }
