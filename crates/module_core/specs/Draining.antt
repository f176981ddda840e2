-- What a loss of mains leaves of the channels that it drained.
use Rattle.std.specs.Prelude.{◌≡◌, [], None}
use Rattle.arm_state.specs.declared.loss.Loss.{Loss}
use Rattle.arm_state.specs.declared.loss.Loss.TheVariants as loss
use Rattle.channel_port.specs.declared.port.ChannelPort.{Ghosts}
use Rattle.channel_port.specs.declared.stage.Stage.TheVariants.{OnBackup}
use Rattle.channel_set.specs.declared.set.ChannelSet.{ChannelSet}
use Rattle.channel_set.specs.Draining.{DrainsEach}
use Rattle.channel_set.specs.Carrying.{KeepsAll}
use Rattle.channel_set.specs.Issuing.{IssuesNone}
use Rattle.channel_set.specs.Set.{AreAt, view_of}

-- so it is where a loss paid for all drains: where it saved, or failed in the save behind them
abbrev pub WhereDrained : Loss → Type 0 → Type 0
WhereDrained (loss.Saved generation count) P = P
WhereDrained loss.Fault P = P
WhereDrained lost P = Unit {0}

module _ {K : Type 0} (L : Ghosts K) where
  -- the channels with no hold and no read, which have issued nothing
  pub record EndsHoldAndReads (old new : ChannelSet K L) : Type 0 where
    pub is : view_of L new ≡ record (view_of L old) { hold = None; waits = record (view_of L old).waits { reads = [] } }
    pub issued : IssuesNone L old new
    pub keeps : KeepsAll L old new

  -- The channels lost their mains, their hold and their reads, and each of them, also one on which nothing waited, is as its own drain
  -- leaves it from there.
  pub record AreDrainedFrom (old new : ChannelSet K L) : Type 0 where
    pub begun : ChannelSet K L
    pub ends : EndsHoldAndReads old begun
    pub backup : AreAt L OnBackup begun
    pub each : DrainsEach L begun new
