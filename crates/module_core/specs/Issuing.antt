-- What the channels of a module issue by an event.
use Rattle.std.specs.Option.{option_map}
use Rattle.arm_state.specs.declared.loss.Loss.{Loss}
use Rattle.arm_state.specs.declared.loss.Loss.TheVariants as loss
use Rattle.channel_port.specs.declared.port.ChannelPort.{Ghosts}
use Rattle.channel_set.specs.Issuing.{IssuesNone, IssuesOn}
use Rattle.channel_set.specs.declared.set.ChannelSet.{ChannelSet}
use Rattle.nv_machine.specs.declared.events.Event.{Event}
use Rattle.nv_machine.specs.declared.events.Event.TheVariants as events
use Rattle.nv_machine.specs.declared.events.Reply.{Reply}
use Rattle.nv_machine.specs.declared.events.Reply.TheVariants as replies
use Rattle.module_core.specs.Draining.{AreDrainedFrom, WhereDrained}

module _ {K : Type 0} (L : Ghosts K) where
  -- A loss of mains behind which nothing is to be saved issues no command. Where it paid for all drains, each channel has issued
  -- what its own drain makes of it. A loss that could not pay for them is the one event of which no list is told.
  abbrev pub IssuesAtLoss : Loss → ChannelSet K L → ChannelSet K L → Type 0
  IssuesAtLoss loss.Closed old new = IssuesNone L old new
  IssuesAtLoss loss.Unsaved old new = IssuesNone L old new
  IssuesAtLoss lost old new = WhereDrained lost (AreDrainedFrom L old new)

  -- A work adds the command that it tells to the list of its channel, and changes no other channel. No other event on mains adds
  -- a command to a list.
  abbrev pub Issues : Event → Reply → ChannelSet K L → ChannelSet K L → Type 0
  Issues (events.Work channel) (replies.Work result) old new = IssuesOn L channel (option_map (λ done. done.command) result) old new
  Issues events.Lose (replies.Lose lost) old new = IssuesAtLoss lost old new
  Issues event reply old new = IssuesNone L old new
