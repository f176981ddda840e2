-- A front and channels that are one module's.
use Rattle.std.specs.Prelude.{◌≡◌, false}
use Rattle.arm_state.specs.Modes.{has_ended}
use Rattle.channel_port.specs.Waits.{AllBelow}
use Rattle.channel_port.specs.declared.port.ChannelPort.{Ghosts}
use Rattle.channel_port.specs.declared.stage.Stage.TheVariants.{OnMains}
use Rattle.channel_set.specs.Set.{AreAt, shape_of, view_of}
use Rattle.channel_set.specs.declared.set.ChannelSet.{ChannelSet}
use Rattle.module_saves.specs.Saving.{IsOfLines}
use Rattle.module_core.specs.declared.front.Front.{Front}

-- No write waits that the front hasn't accepted; on mains the channels are on mains too; and a save that runs is one of their lines.
pub record FitTogether {K : Type 0} (L : Ghosts K) (front : Front) (channels : ChannelSet K L) : Type 0 where
  pub below : AllBelow front.accepted (view_of L channels).waits.writes
  pub mains : has_ended front.mode ≡ false → AreAt L OnMains channels
  pub running : IsOfLines (shape_of L channels).lines front.saves.saving
