-- A channel's own steps as events of the machine.
use Rattle.std.specs.Prelude.{◌≡◌, ◌==◌, ℕ, ◌≤◌, All, Bool, true, false, List}
use Rattle.save_device.specs.Device.{present, StopsWithin}
use Rattle.slot_store.specs.Outcomes.{restored}
use Rattle.slot_store.specs.Rest.{IsAmong}
use Rattle.channel_port.specs.Waits.{Waits}
use Rattle.channel_log.specs.declared.entry.LogEntry.TheVariants.{Looked}
use Rattle.channel_log.specs.Log.{LogNote, note_of}
use Rattle.nv_machine.specs.declared.events.Event.{Event}
use Rattle.nv_machine.specs.declared.events.Event.TheVariants as events
use Rattle.nv_machine.specs.declared.events.Reply.{Reply}
use Rattle.nv_machine.specs.State.{Setup, World, pending_of}
use Rattle.nv_machine.specs.Headline.{Run}
use Rattle.split_module.specs.Telling.{laid_out, waits_told, with_note}

-- What a stop now leaves restores to one of the images that the machine says.
abbrev pub LeavesCandidates : Setup → World → Type 0
LeavesCandidates setup world =
    StopsWithin (λ bytes. IsAmong world.machine.store.maybe (restored setup.shape.lines bytes)) (present world.device)

-- whether an event is a command of the channel, or a read that is collected
abbrev pub is_own : ℕ → Event → Bool
is_own channel (events.Work other) = other == channel
is_own channel (events.Collect ticket) = true
is_own channel event = false

-- Commands of a channel and reads that are collected lead from one world to the other, and no more writes wait there.
pub record ComesOfOwn (setup : Setup) (channel : ℕ) (old new : World) : Type 0 where
  pub events : List Event
  pub replies : List Reply
  pub own : All (λ event. is_own channel event ≡ true) events
  pub run : Run setup events replies old new
  pub fewer : pending_of new.machine ≤ pending_of old.machine

-- the logs where this was seen to wait on a channel
abbrev pub looked : ℕ → List LogNote → Waits → List (List LogNote) → List (List LogNote)
looked channel log waits logs = with_note channel log (note_of Looked waits) logs

-- The machine where what waits is what these logs tell to wait.
abbrev pub settled_to : List (List LogNote) → World → World
settled_to logs world = record world { machine = record world.machine { waits = laid_out (waits_told logs) } }
