-- What lies behind the lock of a channel.
use Rattle.std.specs.Prelude.{◌≡◌, ℕ, ◌<◌, ◌≤◌, List, Option, Some, None}
use Rattle.channel_log.specs.Log.{LogNote, log_tells}
use Rattle.channel_log.specs.ReadLines.{ReadsHaveLines}
use Rattle.channel_log.specs.Seats.{OneLog}
use Rattle.channel_port.specs.declared.port.ChannelPort.{Ghosts}
use Rattle.channel_locks.specs.declared.part.Part.{Part}
use Rattle.channel_locks.specs.Stands.{PartStands}
use Rattle.channel_locks.specs.declared.parts_name.PartsName.{Ghosts as NameGhosts}
use Rattle.channel_locks.specs.PortMakes.{make_of}

module _ {K B : Type 0} (L : Ghosts K) (O : NameGhosts B) where
  -- The part stands for the channel's log, over the memory with which the life began, and its port is one of the board's ports. Each
  -- read that the log tells to wait has its line.
  pub record IsPartOfBoard (part : Part K L) (channel : ℕ) (log : List LogNote) : Type 0 where
    pub stands : PartStands L part channel O.base log
    pub made : make_of (L.view part.port) ≡ O.make
    pub reads : ReadsHaveLines O.base (log_tells log)

  -- there is a part for each channel that the board has, and none for another
  abbrev pub IsPartWhereDue : Option (Part K L) → ℕ → List LogNote → Type 0
  IsPartWhereDue None channel log = O.ports ≤ channel
  IsPartWhereDue (Some part) channel log = (channel < O.ports) × IsPartOfBoard part channel log

  -- What is true behind the lock of a channel whenever it is free: the seat knows the log of this channel, among those of the
  -- board, and the part is what the log tells.
  pub record IsSlotKept (part : Option (Part K L)) (seat : OneLog) (channel : ℕ) : Type 0 where
    pub table : seat.table ≡ O.logs
    pub channel_is : seat.channel ≡ channel
    pub part_is : ∥ IsPartWhereDue part channel seat.log ∥₁
