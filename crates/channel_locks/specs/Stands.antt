-- What a part is to whoever knows the log of its channel.
use Rattle.std.specs.Prelude.{◌≡◌, ℕ, ◌-◌, List, [], ◌∷◌, ◌++◌, length}
use Rattle.std.specs.Option.{ForSome}
use Rattle.channel_log.specs.declared.entry.LogEntry.{LogEntry}
use Rattle.channel_log.specs.Between.{CameOf}
use Rattle.channel_log.specs.Log.{IsLog, LogNote, MayFollow, Told, credits_of, log_tells, note_of}
use Rattle.channel_port.specs.declared.port.ChannelPort.{Ghosts}
use Rattle.channel_port.specs.declared.waiting.Waiting.{Waiting}
use Rattle.channel_port.specs.Carried.{WaitFrom}
use Rattle.channel_set.specs.Carrying.{CarriesOwn}
use Rattle.channel_locks.specs.declared.part.Part.{Part}

module _ {K : Type 0} (L : Ghosts K) where
  -- the writes that wait
  abbrev pub queue_of : Part K L → List Waiting
  queue_of part = (L.view part.port).waits.writes

  -- how many credits are returned ones: those beyond the writes that wait
  abbrev pub returned_of : Part K L → ℕ
  returned_of part = part.credits - length (queue_of part)

  -- The port of the channel carries the writes that it was given, and no other one waits in it. Its hold is the one that is
  -- told, and from the hold on all of them wait. What waits in it came, by the channel's own steps, of what is told to have waited.
  pub record PortStands (port : K) (channel : ℕ) (base : List (List ℕ)) (told : Told) : Type 0 where
    pub number : (L.view port).number ≡ channel
    pub own : CarriesOwn L port base told.written
    pub hold : (L.view port).hold ≡ told.hold
    pub held : ForSome told.hold (λ n. WaitFrom n told.written (L.view port).waits.writes)
    pub came : CameOf channel told (L.view port).waits

  -- The part is the channel's and is as its log tells: its port, whether mains were lost, and its credits, which are those that the
  -- log has out. Of any part it is true besides that as many credits are out, at least, as writes wait, and that its port is on
  -- mains until they are lost: so much is kept by the type.
  pub record PartStands (part : Part K L) (channel : ℕ) (base : List (List ℕ)) (log : List LogNote) : Type 0 where
    pub port : PortStands part.port channel base (log_tells log)
    pub credits : part.credits ≡ credits_of log
    pub ended : part.ended ≡ (log_tells log).ended

  -- It stands for each log for which it stood.
  abbrev pub StandsStill : Part K L → Part K L → Type 0
  StandsStill old new = (channel : ℕ) (base : List (List ℕ)) (log : List LogNote) → PartStands old channel base log → PartStands new channel base log

  -- It stands for each log for which it stood with this entry behind it, where the entry may follow. What waits is noted anew.
  abbrev pub StandsNoted : LogEntry → Part K L → Part K L → Type 0
  StandsNoted entry old new = (channel : ℕ) (base : List (List ℕ)) (log : List LogNote) → PartStands old channel base log
      → IsLog log → MayFollow log entry → PartStands new channel base (log ++ note_of entry (L.view new.port).waits ∷ [])

  -- nothing but the port has changed
  pub record SameButPort (old new : Part K L) : Type 0 where
    pub channel : new.channel ≡ old.channel
    pub credits : new.credits ≡ old.credits
    pub ended : new.ended ≡ old.ended
