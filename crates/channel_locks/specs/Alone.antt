-- What is done under a channel's lock alone, by the part that it lends.
use Rattle.std.specs.Prelude.{◌≡◌, ◌≢◌, ◌⊎◌, ◌==◌, ◌&&◌, ℕ, zero, suc, ◌+◌, ◌≤◌, Bool, true, false, Option, Some, None, IfNone, IfSome}
use Rattle.std.specs.Option.{option_map}
use Rattle.channel_port.specs.declared.answers.Collected.{Collected}
use Rattle.channel_port.specs.declared.answers.Collected.TheVariants.{Pending, Unknown}
use Rattle.channel_port.specs.declared.answers.Done.{Done}
use Rattle.channel_port.specs.declared.answers.Ticket.{Ticket}
use Rattle.channel_port.specs.declared.port.ChannelPort.{Ghosts}
use Rattle.channel_port.specs.Answers.{IsCollected, IsServed}
use Rattle.channel_port.specs.Issuing.{with_issued}
use Rattle.channel_locks.specs.declared.part.Part.{Part}
use Rattle.channel_locks.specs.Queue.{returned_by}
use Rattle.channel_locks.specs.Stands.{SameButPort, queue_of, returned_of}

module _ {K : Type 0} (L : Ghosts K) where
  -- The part was worked once: it issued the command that came next and no other, or had none, or mains were lost. The credit of a write
  -- that went to the array is a returned one from then on.
  pub record WorksPart (done : Option Done) (old new : Part K L) : Type 0 where
    pub ended : old.ended ≡ true → (done ≡ None) × (new ≡ old)
    pub next : old.ended ≡ false → L.next_command old.port (option_map (λ (d : Done). d.command) done)
    pub served : IfSome done (λ d. IsServed (L.view old.port).hold old.channel d.served (L.view old.port).waits (L.view new.port).waits)
    pub stays : IfNone done (L.view new.port ≡ L.view old.port)
    pub returned : returned_of L new ≡ returned_of L old + returned_by done
    pub issued : L.issued new.port ≡ with_issued (option_map (λ (d : Done). d.command) done) (L.issued old.port)
    pub same : SameButPort L old new

  -- The part was asked for a ticket, and issued no command. A ticket of another channel is unknown to it.
  pub record CollectsPart (ticket : Ticket) (answer : Collected) (old new : Part K L) : Type 0 where
    pub elsewhere : ticket.channel ≢ old.channel → (answer ≡ Unknown) × (new ≡ old)
    pub collected : IsCollected ticket answer (L.view old.port).waits (L.view new.port).waits
    pub writes : queue_of L new ≡ queue_of L old
    pub issued : L.issued new.port ≡ L.issued old.port
    pub same : SameButPort L old new

  -- the same of what a lock lends; where the board lacks the channel there is nothing
  abbrev pub WorksAlone : Option Done → Option (Part K L) → Option (Part K L) → Type 0
  WorksAlone done None new = (done ≡ None) × (new ≡ None)
  WorksAlone done (Some old) new = (later : Part K L) × (new ≡ Some later) × WorksPart done old later

  abbrev pub CollectsAlone : Ticket → Collected → Option (Part K L) → Option (Part K L) → Type 0
  CollectsAlone ticket answer None new = (answer ≡ Unknown) × (new ≡ None)
  CollectsAlone ticket answer (Some old) new = (later : Part K L) × (new ≡ Some later) × CollectsPart ticket answer old later

  -- whether mains were lost
  abbrev pub lost_mains_in : Option (Part K L) → Bool
  lost_mains_in None = false
  lost_mains_in (Some part) = part.ended

  -- there was nothing for a ticket yet, and its channel was worked once
  pub record WorksForTicket (ticket : Ticket) (old new : Option (Part K L)) : Type 0 where
    pub asked : Option (Part K L)
    pub done : Option Done
    pub waits : CollectsAlone ticket Pending old asked
    pub works : WorksAlone done asked new

  -- so many times
  abbrev pub WorksForTimes : ℕ → Ticket → Option (Part K L) → Option (Part K L) → Type 0
  WorksForTimes zero ticket old new = new ≡ old
  WorksForTimes (suc times) ticket old new = (mid : Option (Part K L)) × WorksForTimes times ticket old mid × WorksForTicket ticket mid new

  -- While there was nothing for a ticket its channel was worked, 64 times at most; then there was this for it. It is nothing still only
  -- where that were 64 times.
  pub record ServesAlone (ticket : Ticket) (answer : Collected) (old new : Option (Part K L)) : Type 0 where
    pub times : ℕ
    pub most : times ≤ 64
    pub worked : Option (Part K L)
    pub works : WorksForTimes times ticket old worked
    pub answers : CollectsAlone ticket answer worked new
    pub ends : answer ≡ Pending → times ≡ 64

  -- whether there is no room for a further write, now and once the returned credits are taken back
  abbrev pub is_crowded : Part K L → Bool
  is_crowded part = (returned_of L part == 0) && (part.credits == (L.view part.port).depth)

  abbrev pub crowded_in : Option (Part K L) → Bool
  crowded_in None = false
  crowded_in (Some part) = is_crowded part

  -- there was no room, and the channel was worked once
  pub record WorksWhereCrowded (done : Option Done) (old new : Option (Part K L)) : Type 0 where
    pub crowded : crowded_in old ≡ true
    pub works : WorksAlone done old new

  -- so many times
  abbrev pub WorksCrowdedTimes : ℕ → Option (Part K L) → Option (Part K L) → Type 0
  WorksCrowdedTimes zero old new = new ≡ old
  WorksCrowdedTimes (suc times) old new =
      (mid : Option (Part K L)) × WorksCrowdedTimes times old mid × (done : Option Done) × WorksWhereCrowded done mid new

  -- the channel had no command when it was worked last
  abbrev pub FoundNothing : Option (Part K L) → Type 0
  FoundNothing now = (before : Option (Part K L)) × WorksWhereCrowded None before now

  -- While the channel had no room it was worked, until it had, or had no command left, or 64 times.
  pub record MakesRoomAlone (old new : Option (Part K L)) : Type 0 where
    pub times : ℕ
    pub most : times ≤ 64
    pub works : WorksCrowdedTimes times old new
    pub ends : (crowded_in new ≡ false) ⊎ (times ≡ 64) ⊎ FoundNothing new
