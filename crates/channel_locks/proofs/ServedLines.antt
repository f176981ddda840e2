-- What a ticket had that was served.
use Rattle.std.proofs.Common.{ℕ, suc, zero, List, None, Option, Some, ap, subst, sym, true, ◌≡◌}
use Rattle.std.proofs.Math.Logic.{∥∥₁_elim}
use Rattle.std.proofs.Props.{props}
use Rattle.channel_log.specs.Log.{LogNote, log_tells}
use Rattle.channel_log.specs.ReadLines.{IsLineBehind}
use Rattle.channel_log.proofs.ReadLines.{Remains, came_remains, collected_remains, remains_has, remains_on, same_reads, served_remains}
use Rattle.channel_locks.specs.declared.part.Part.{Part}
use Rattle.channel_port.specs.Answers.{open_read}
use Rattle.channel_port.specs.View.{PortView}
use Rattle.channel_port.specs.Waits.{Has, OpenRead, Waits, nothing}
use Rattle.channel_port.specs.declared.answers.Collected.{Collected}
use Rattle.channel_port.specs.declared.answers.Done.{Done}
use Rattle.channel_port.specs.declared.answers.Ticket.{Ticket}
use Rattle.channel_port.specs.declared.port.ChannelPort.{Ghosts}
use Rattle.channel_locks.specs.Alone.{CollectsAlone, ServesAlone, WorksAlone, WorksForTimes, WorksPart}
use Rattle.channel_locks.specs.Lent.{GivesItsLine}
use Rattle.channel_locks.specs.Slots.{IsPartWhereDue}
use Rattle.channel_locks.specs.declared.parts_name.PartsName.{Ghosts as NameGhosts}

module _ {K B : Type 0} (L : Ghosts K) (O : NameGhosts B) where
  abbrev Lent : Type 0
  Lent = Option (Part K L)

  -- what waits in a part; nothing where there is none
  abbrev waits_in_part : Lent → Waits
  waits_in_part None = nothing
  waits_in_part (Some part) = (L.view part.port).waits

  abbrev RemainsIn : Lent → Lent → Type 0
  RemainsIn old new = Remains (waits_in_part old) (waits_in_part new)

  same_part : (old new : Lent) → new ≡ old → RemainsIn old new
  same_part old new is = same_reads (waits_in_part old) (waits_in_part new) (ap (λ (part : Lent). (waits_in_part part).reads) is)

  part_worked : (done : Option Done) (old new : Part K L) → WorksPart L done old new → Remains (L.view old.port).waits (L.view new.port).waits
  part_worked None old new works = same_reads (L.view old.port).waits (L.view new.port).waits (ap (λ (v : PortView). v.waits.reads) works.stays)
  part_worked (Some done) old new works = served_remains (L.view old.port).hold old.channel done.served (L.view old.port).waits (L.view new.port).waits works.served

  -- no read comes in where the channel is worked, or asked for a ticket
  worked_remains : (done : Option Done) (old new : Lent) → WorksAlone L done old new → RemainsIn old new
  worked_remains some None new (none, gone) = same_part None new gone
  worked_remains done (Some old) new (later, is, works) = subst (λ (part : Lent). RemainsIn (Some old) part) (sym is) (part_worked done old later works)

  asked_remains : (ticket : Ticket) (answer : Collected) (old new : Lent) → CollectsAlone L ticket answer old new → RemainsIn old new
  asked_remains ticket answer None new (unknown, gone) = same_part None new gone
  asked_remains ticket answer (Some old) new (later, is, asked) =
      subst (λ (part : Lent). RemainsIn (Some old) part) (sym is) (collected_remains ticket answer (L.view old.port).waits (L.view later.port).waits asked.collected)

  times_remain : (times : ℕ) (ticket : Ticket) (old new : Lent) → WorksForTimes L times ticket old new → RemainsIn old new
  times_remain zero ticket old new is = same_part old new is
  times_remain (suc times) ticket old new (mid, before, last) =
      remains_on (waits_in_part old) (waits_in_part mid) (waits_in_part new) (times_remain times ticket old mid before)
      (remains_on (waits_in_part mid) (waits_in_part last.asked) (waits_in_part new) (asked_remains ticket Collected.Pending mid last.asked last.waits) (worked_remains last.done last.asked new last.works))

  module _ (channel : ℕ) (log : List LogNote) where
    abbrev IsLine : OpenRead → Type 0
    IsLine read = IsLineBehind O.base (log_tells log).written read.line read.at read.bytes

    -- each read of the part has its line
    due_has : (part : Lent) → IsPartWhereDue L O part channel log → (read : OpenRead) → Has read (waits_in_part part).reads → IsLine read
    due_has None due = λ read has. absurd (let at = has.1 in let bad : ⊥ = cc in bad)
    due_has (Some part) due =
        remains_has O.base (log_tells log).written (log_tells log).waits (L.view part.port).waits (came_remains channel (log_tells log) (L.view part.port).waits due.1.stands.port.came) due.1.reads

    -- and so has the one that is collected
    collected_has : (ticket : Ticket) (line at : ℕ) (bytes : List ℕ) (part new : Lent) → ((read : OpenRead) → Has read (waits_in_part part).reads → IsLine read) → CollectsAlone L ticket (Collected.Data line bytes at) part new
        → IsLineBehind O.base (log_tells log).written line at bytes
    collected_has ticket line at bytes None new have (unknown, gone) = absurd (let bad : ⊥ = cc in bad)
    collected_has ticket line at bytes (Some part) new have (later, is, asked) = let (place, stands, rest) = asked.collected.0 in have (open_read ticket line bytes at true) (place, stands)

    pub served_line : (ticket : Ticket) (answer : Collected) (old new : Lent) → ∥ IsPartWhereDue L O old channel log ∥₁ → ServesAlone L ticket answer old new → GivesItsLine O.base (log_tells log) answer
    served_line ticket (Collected.Data line bytes at) old new due serves =
        ∥∥₁_elim due (hlevel props) (λ d.
        collected_has ticket line at bytes serves.worked new
        (remains_has O.base (log_tells log).written (waits_in_part old) (waits_in_part serves.worked) (times_remain serves.times ticket old serves.worked serves.works) (due_has old d)) serves.answers)
    served_line ticket Collected.Pending old new due serves = tt
    served_line ticket Collected.Unknown old new due serves = tt
