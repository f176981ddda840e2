-- What the channels of a module have issued behind events.
use Rattle.std.specs.Prelude.{◌≡◌, ◌==◌, ℕ, ◌<◌, Bool, true, false, if◌then◌else◌, List, [], ◌∷◌, ◌++◌, All, length, slice_index_or, Some}
use Rattle.ddr4_timing.specs.declared.command.Stamped.{Stamped}
use Rattle.arm_state.specs.declared.loss.Loss.TheVariants as loss
use Rattle.channel_port.specs.declared.port.ChannelPort.{Ghosts}
use Rattle.channel_set.specs.Issuing.{issued_in}
use Rattle.channel_set.specs.declared.set.ChannelSet.{ChannelSet}
use Rattle.nv_machine.specs.State.{Setup}
use Rattle.nv_machine.specs.declared.events.Event.{Event}
use Rattle.nv_machine.specs.declared.events.Event.TheVariants as events
use Rattle.nv_machine.specs.declared.events.Reply.{Reply}
use Rattle.nv_machine.specs.declared.events.Reply.TheVariants as replies
use Rattle.module_core.specs.Stands.{Point, RunAt}

-- the command that a reply tells of a channel, if it tells one
abbrev pub told_by : ℕ → Event → Reply → List Stamped
told_by channel (events.Work worked) (replies.Work (Some done)) = if worked == channel then done.command ∷ [] else []
told_by channel event reply = []

-- those that replies tell of it, in turn
abbrev pub told_on : ℕ → List Event → List Reply → List Stamped
told_on channel (event ∷ events) (reply ∷ replies) = told_by channel event reply ++ told_on channel events replies
told_on channel events replies = []

-- whether drains were begun, by a loss of mains that is answered so
abbrev pub begins_drains : Reply → Bool
begins_drains (replies.Lose (loss.Saved generation count)) = true
begins_drains (replies.Lose loss.Fault) = true
begins_drains (replies.Lose loss.Dark) = true
begins_drains reply = false

module _ {K : Type 0} (L : Ghosts K) where
  -- the list of a channel
  abbrev pub issued_on : ChannelSet K L → ℕ → List Stamped
  issued_on channels channel = slice_index_or (issued_in L channels) channel []

  -- As many channels of the same profile as before, each of which has issued these commands since, in turn, and no other.
  pub record HaveIssued (told : ℕ → List Stamped) (old new : ChannelSet K L) : Type 0 where
    pub checked : new.terms.checked ≡ old.terms.checked
    pub count : length new.ports.items ≡ length old.ports.items
    pub lists : (channel : ℕ) → channel < length old.ports.items → issued_on new channel ≡ issued_on old channel ++ told channel

  -- Through events in none of which a drain was begun each channel has issued the commands that the replies tell of it.
  abbrev pub RunsIssue : Type 0
  RunsIssue =
      (setup : Setup) (events : List Event) (replies : List Reply) (old new : Point L) → RunAt L setup events replies old new
      → All (λ reply. begins_drains reply ≡ false) replies → HaveIssued (λ channel. told_on channel events replies) old.channels new.channels
