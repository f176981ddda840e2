-- The logs of a board that begins.
use Rattle.std.specs.Prelude.{◌≡◌, ℕ, ◌<◌, ◌≤◌, Bool, false, List, [], length, slice_get, slice_index_or, take, Option, Some}
use Rattle.line_memory.specs.History.{Recorded}
use Rattle.line_memory.specs.Parts.{written_on}
use Rattle.channel_log.specs.Log.{LogNote, Told, credits_of, log_tells, untold}
use Rattle.channel_log.specs.ReadLines.{ReadsHaveLines}
use Rattle.channel_log.specs.Seats.{AllLogs, OneLog, one_log}
use Rattle.channel_port.specs.declared.port.ChannelPort.{Ghosts}
use Rattle.channel_port.specs.declared.stage.Stage.TheVariants.{OnMains}
use Rattle.channel_locks.specs.Stands.{PortStands}
use Rattle.channel_locks.specs.PortMakes.{make_of}
use Rattle.channel_locks.specs.declared.parts_name.PartsName.{Ghosts as PartsGhosts}
use Rattle.board_desk.specs.Loans.{waits_of_port}

-- the log of a channel
abbrev pub log_in : List (List LogNote) → ℕ → List LogNote
log_in logs channel = slice_index_or logs channel []

-- the channel of a line, by a table of them; 0 where there is no such line
abbrev pub channel_by : List ℕ → ℕ → ℕ
channel_by table line = slice_index_or table line 0

-- There are so many channels. Each has a seat, which knows the channel's log as the front's seat does.
pub record HaveSeats (count : ℕ) (known : AllLogs) (seats : List OneLog) : Type 0 where
  pub logs_are : length known.logs ≡ count
  pub seats_are : length seats ≡ count
  pub each : (channel : ℕ) → channel < count → slice_get seats channel ≡ Some (one_log known.table channel (log_in known.logs channel))

module _ {K : Type 0} (L : Ghosts K) where
  -- what is told of a channel before its writes: from which number on they are held back, whether mains were lost, and what waits in
  -- its port
  abbrev pub told_without_writes : Option ℕ → Bool → Option K → Told
  told_without_writes hold ended port = record untold { waits = waits_of_port L port; hold = hold; ended = ended }

  -- so much is told of so many channels, and on each at most 64 credits are out
  pub record AreToldOfPorts (hold : Option ℕ) (ended : Bool) (ports : List K) (count : ℕ) (logs : List (List LogNote)) : Type 0 where
    pub told : (channel : ℕ) → channel < count → log_tells (log_in logs channel) ≡ told_without_writes hold ended (slice_get ports channel)
    pub few : (channel : ℕ) → channel < count → credits_of (log_in logs channel) ≤ 64

  -- what is told of a channel as a board begins: besides, which of the record's writes lie on it
  abbrev pub told_first : List ℕ → Recorded → Option ℕ → Bool → Option K → ℕ → Told
  told_first table history hold ended port channel =
      record (told_without_writes hold ended port) { written = written_on (channel_by table) channel history.start history.writes }

  -- so much is told of each of eight channels
  pub record AreFirstLogs (table : List ℕ) (history : Recorded) (hold : Option ℕ) (ended : Bool) (ports : List K) (logs : List (List LogNote)) : Type 0 where
    pub eight : length logs ≡ 8
    pub told : (channel : ℕ) → channel < 8 → log_tells (log_in logs channel) ≡ told_first table history hold ended (slice_get ports channel) channel
    pub few : (channel : ℕ) → channel < 8 → credits_of (log_in logs channel) ≤ 64

-- Besides what was told, each channel's log tells the writes of a record that lie on it, of the first so many.
abbrev pub TellWrites : List ℕ → Recorded → ℕ → List (List LogNote) → List (List LogNote) → Type 0
TellWrites table history count old new = (channel : ℕ) → channel < 8
    → log_tells (log_in new channel) ≡ record (log_tells (log_in old channel)) { written = written_on (channel_by table) channel history.start (take count history.writes) }

-- no write is told
abbrev pub TellNoWrite : List (List LogNote) → Type 0
TellNoWrite logs = (channel : ℕ) → channel < 8 → (log_tells (log_in logs channel)).written ≡ []

module _ {K B : Type 0} (L : Ghosts K) (P : PartsGhosts B) (ended : Bool) where
  -- A port of the board, as its channel begins: it stands for what is told of the channel, which tells what waits in it, and each read
  -- that waits has its line.
  pub record IsFirstPort (channel : ℕ) (told : Told) (port : K) : Type 0 where
    pub number_is : (L.view port).number ≡ channel
    pub stands : ∥ PortStands L port channel P.base told ∥₁
    pub waits : told.waits ≡ (L.view port).waits
    pub reads : ∥ ReadsHaveLines P.base told ∥₁
    pub ends : told.ended ≡ ended
    pub mains : ended ≡ false → (L.view port).stage ≡ OnMains
    pub made : make_of (L.view port) ≡ P.make

  -- Each seat is its channel's, and each port is as the seat of its channel knows.
  pub record AreFirstSlots (ports : List K) (seats : List OneLog) : Type 0 where
    pub seats_are : (channel : ℕ) (seat : OneLog) → slice_get seats channel ≡ Some seat → (seat.table ≡ P.logs) × (seat.channel ≡ channel)
    pub ports_are : (channel : ℕ) (seat : OneLog) (port : K) → slice_get seats channel ≡ Some seat → slice_get ports channel ≡ Some port
        → IsFirstPort channel (log_tells seat.log) port

  -- Each port is as what is told of its channel.
  abbrev pub AreFirstPorts : List ℕ → Recorded → Option ℕ → List K → Type 0
  AreFirstPorts table history hold ports = (channel : ℕ) (port : K) → slice_get ports channel ≡ Some port
      → IsFirstPort channel (told_first L table history hold ended (Some port) channel) port
