-- The ports of a board's channels while a whole module has them.
use Rattle.std.specs.Prelude.{◌≡◌, ℕ, ◌<◌, ◌≤◌, Bool, List, [], length, min, slice_get, slice_index_or, true, false, Option, Some, None}
use Rattle.channel_locks.specs.PortMakes.{make_of}
use Rattle.channel_locks.specs.declared.parts_name.PartsName.{Ghosts as PartsGhosts}
use Rattle.channel_log.specs.Log.{LogNote, Told, credits_of, log_tells}
use Rattle.channel_log.specs.ReadLines.{ReadsHaveLines}
use Rattle.channel_locks.specs.Stands.{PortStands, returned_of}
use Rattle.channel_locks.specs.declared.part.Part.{Part}
use Rattle.channel_port.specs.Waits.{Waits, nothing}
use Rattle.channel_port.specs.declared.port.ChannelPort.{Ghosts}
use Rattle.channel_port.specs.declared.stage.Stage.TheVariants.{OnMains}

-- the same of a channel, but from which number on writes are held back, whether the life has ended, and what waits
abbrev pub restated : Option ℕ → Bool → Waits → Told → Told
restated hold ended waits told = record told { hold = hold; ended = ended; waits = waits }

module _ {K : Type 0} (L : Ghosts K) where
  -- what waits in a port; nothing where there is none
  abbrev pub waits_of_port : Option K → Waits
  waits_of_port None = nothing
  waits_of_port (Some port) = (L.view port).waits

  -- no credit of the part is a returned one, and its log tells what waits in it
  abbrev pub IsReadyToLend : Option (Part K L) → List LogNote → Type 0
  IsReadyToLend None log = Unit {0}
  IsReadyToLend (Some part) log = (returned_of L part ≡ 0) × ((log_tells log).waits ≡ (L.view part.port).waits)

  module _ {B : Type 0} (P : PartsGhosts B) where
    -- A port that its channel has lent stands for the channel's log, which tells what waits in it, and each read that waits has its line.
    -- On mains it is on mains.
    pub record IsLent (told : Told) (number : ℕ) (port : K) : Type 0 where
      pub stands : PortStands L port number P.base told
      pub waits : told.waits ≡ (L.view port).waits
      pub reads : ReadsHaveLines P.base told
      pub stage : told.ended ≡ false → (L.view port).stage ≡ OnMains

    -- The channels below a number have lent their ports, those that the board has.
    pub record HaveLent (logs : List (List LogNote)) (number : ℕ) (ports : List K) : Type 0 where
      pub count : length ports ≡ min number P.ports
      pub made : (i : ℕ) (port : K) → slice_get ports i ≡ Some port → make_of (L.view port) ≡ P.make
      pub each : (i : ℕ) (port : K) → slice_get ports i ≡ Some port → IsLent (log_tells (slice_index_or logs i [])) i port

    -- A channel's port, where the board has the channel, may come back to it, where writes are held back from a number on and the
    -- life has ended, or has not.
    abbrev pub ComesBack : Option ℕ → Bool → ℕ → Told → List K → Type 0
    ComesBack hold ended number told ports =
        (port : K) → slice_get ports number ≡ Some port → IsLent (restated hold ended (L.view port).waits told) number port

    -- Each port may come back to its channel.
    abbrev pub AllComeBack : Option ℕ → Bool → List (List LogNote) → List K → Type 0
    AllComeBack hold ended logs ports = (number : ℕ) → ComesBack hold ended number (log_tells (slice_index_or logs number [])) ports

  -- Of each channel this is told now, besides what was told before.
  pub record AreRestated (hold : Option ℕ) (ended : Bool) (ports : List K) (old new : List (List LogNote)) : Type 0 where
    pub size : length new ≡ length old
    pub told : (channel : ℕ) → channel < length old
        → log_tells (slice_index_or new channel []) ≡ restated hold ended (waits_of_port (slice_get ports channel)) (log_tells (slice_index_or old channel []))
    pub few : (channel : ℕ) → channel < length old → credits_of (slice_index_or new channel []) ≤ 64

  -- The channels from a number on have their ports back, and this is told of each of them now. Of the others what was known still is.
  pub record HaveBack (hold : Option ℕ) (ended : Bool) (ports : List K) (first : List (List LogNote)) (number : ℕ) (left : List K) (known : List (List LogNote)) : Type 0 where
    pub lent : (i : ℕ) → i < number → slice_get left i ≡ slice_get ports i
    pub size : length known ≡ length first
    pub told : (channel : ℕ) → number ≤ channel → channel < length first
        → log_tells (slice_index_or known channel []) ≡ restated hold ended (waits_of_port (slice_get ports channel)) (log_tells (slice_index_or first channel []))
    pub few : (channel : ℕ) → number ≤ channel → channel < length first → credits_of (slice_index_or known channel []) ≤ 64
    pub others : (channel : ℕ) → channel < number → slice_index_or known channel [] ≡ slice_index_or first channel []

-- where a life has ended for a channel it has ended now
abbrev pub EndStays : Bool → List (List LogNote) → Type 0
EndStays ended logs = (channel : ℕ) → (log_tells (slice_index_or logs channel [])).ended ≡ true → ended ≡ true
