-- Channels of which one is a copy of the other.
use Rattle.std.specs.Prelude.{◌≡◌}
use Rattle.channel_port.specs.declared.port.ChannelPort.{Ghosts}
use Rattle.channel_set.specs.declared.set.ChannelSet.{ChannelSet}

-- the same ports, in the same order, with the same terms and costs
pub record SameChannels {K : Type 0} (L : Ghosts K) (old new : ChannelSet K L) : Type 0 where
  pub ports : new.ports.items ≡ old.ports.items
  pub terms : new.terms ≡ old.terms
  pub costs : new.costs ≡ old.costs
