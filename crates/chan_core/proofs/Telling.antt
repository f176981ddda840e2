-- What reads are told.
use Rattle.std.proofs.Common.{◌≡◌, ◌≢◌, ℕ, ◌+◌, ◌<◌, false, List, [], ◌∷◌, ◌++◌, map, length, remove, slice_get, slice_set, get_or, Option, Some, None, refl, sym, ap, subst, ◌∙◌, arith}
use Rattle.std.proofs.lemmas.List.{length-map, map-append}
use Rattle.channel_port.specs.declared.answers.Collected.TheVariants as collected
use Rattle.chan_core.proofs.Common.{AddsRead, AddsWrite, AnswersCollect, AreContents, ChannelState, Contents, IsFullOfReads, IsIndexOfSerial, IsNewest, NoWriteNames, OpenRead, OpenTicket, Place, Queue, Read, Ticket, Waiting, Write, cell_of, cells_of, data_or, is_held, line_at, loaded_at, pending_write, request, seen, ticket_of, ticket_with}
use Rattle.wpq_core.proofs.PendingLaws.{after_pending-line}
use Rattle.chan_core.proofs.Kept.{map-at, map-from}
use Rattle.chan_core.proofs.Taken.{map-remove}
use Rattle.chan_core.proofs.Serving.{memory_of, quiet-tickets}

-- a line of the memory is its newest pending write's data, or else the array's
pub line-now : (s : Contents) → AreContents s → (cell : ℕ) (newest : Option (List ℕ)) → cell < cells_of s.checked.geometry → IsNewest cell s.queue.writes newest → get_or (memory_of s) cell [] ≡ data_or newest (get_or s.array cell [])
line-now s is cell newest within writes = after_pending-line s.array s.queue.writes cell newest (omega (arith, within, is.array.size)) writes

-- a read that waits is to have its line of the memory
pub asks : (s : Contents) (waiting : Waiting) (reads : List OpenRead) (line at : ℕ) (place : Place) (cell : ℕ) → AreContents s → cell < cells_of s.checked.geometry → cell ≡ cell_of s.checked.geometry place → NoWriteNames cell s.queue.writes
    → waiting.requests ≡ s.waiting.requests ++ request s.waiting.next place cell Read at false ∷ [] → reads ≡ s.reads ++ record { serial = s.serial; seq = s.waiting.next; line = line; cell = cell; at = at; bytes = None } ∷ []
    → AddsRead (seen s) place line at (seen (record s { waiting = waiting; reads = reads; serial = s.serial + 1 }))
asks s waiting reads line at place cell is within same none requests-is reads-is =
    let now : get_or s.array cell [] ≡ line_at (seen s) place = sym (line-now s is cell None within none) ∙ ap (λ (n : ℕ). get_or (memory_of s) n []) same in
    record { seq = s.waiting.next; same = rw (requests-is, reads-is, map-append, now, same) }

-- a ticket has the serial of its read
pub serial-of : (array : List (List ℕ)) (r : OpenRead) → (ticket_of array r).serial ≡ r.serial
serial-of array r = elim r.bytes as (λ b. (ticket_with array r b).serial ≡ r.serial) [ None ↦ refl | Some b ↦ refl ]

-- the open read of a ticket
pub read-of-ticket : (array : List (List ℕ)) (reads : List OpenRead) (i : ℕ) (t : OpenTicket) → slice_get (map (ticket_of array) reads) i ≡ Some t → (r : OpenRead) × (slice_get reads i ≡ Some r) × (r.serial ≡ t.serial)
read-of-ticket array reads i t at = let (r, there, same) = map-from (ticket_of array) reads i t at in (r, there, sym (serial-of array r) ∙ ap (λ (x : OpenTicket). x.serial) same)

-- a write was added
pub adds : (s : Contents) (queue : Queue) (waiting : Waiting) (number : ℕ) (bytes : List ℕ) (place : Place) (cell : ℕ) → cell ≡ cell_of s.checked.geometry place
    → queue ≡ record s.queue { writes = s.queue.writes ++ pending_write number cell bytes ∷ [] } → waiting.requests ≡ s.waiting.requests ++ request s.waiting.next place cell Write number (is_held s.hold Write number) ∷ []
    → AddsWrite (seen s) number place bytes (seen (record s { queue = queue; waiting = waiting }))
adds s queue waiting number bytes place cell same queue-is requests-is = record { seq = s.waiting.next; same = rw (queue-is, requests-is, same) }

-- a further read may be open
pub room-for-one : (s : Contents) (now : ChannelState) → seen s ≡ now → AreContents s → ¬ IsFullOfReads now → length s.reads < s.most_reads
room-for-one s now same is free =
    let apart : length s.reads ≢ s.most_reads = λ full. free (subst IsFullOfReads same (length-map s.reads (ticket_of s.array) ∙ full)) in omega (arith, is.few_reads, apart)

-- the open read that a ticket names
pub record Found (s : Contents) (serial : ℕ) (i : ℕ) (r : OpenRead) : Type 0 where
  pub at : slice_get s.reads i ≡ Some r
  pub named : r.serial ≡ serial

pub collect-data : (s : Contents) (ticket : Ticket) (i : ℕ) (r : OpenRead) (bytes : List ℕ) (reads : List OpenRead) → ticket.channel ≡ s.channel → Found s ticket.serial i r → r.bytes ≡ Some bytes → reads ≡ remove s.reads i
    → AnswersCollect (seen s) ticket (collected.Data r.line bytes r.at) (map (ticket_of s.array) reads)
collect-data s ticket i r bytes reads channel f answered reads-is =
    (channel, i, map-at (ticket_of s.array) s.reads i r f.at ∙ rw (answered, f.named), rw reads-is (map-remove (ticket_of s.array) s.reads i))

pub collect-pending : (s : Contents) (ticket : Ticket) (i : ℕ) (r : OpenRead) → ticket.channel ≡ s.channel → Found s ticket.serial i r → r.bytes ≡ None → AnswersCollect (seen s) ticket collected.Pending (seen s).tickets
collect-pending s ticket i r channel f waits =
    (channel, i, ticket_of s.array r, map-at (ticket_of s.array) s.reads i r f.at, serial-of s.array r ∙ f.named, rw waits refl, refl)

pub collect-unknown : (s : Contents) (ticket : Ticket) → IsIndexOfSerial ticket.serial s.reads None → AnswersCollect (seen s) ticket collected.Unknown (seen s).tickets
collect-unknown s ticket none = (λ channel i t at named. let (r, there, same) = read-of-ticket s.array s.reads i t at in none i r there (same ∙ named), refl)

-- the newest pending write of a cell has the line
pub line-here : (s : Contents) → AreContents s → (place : Place) (bytes : List ℕ) → cell_of s.checked.geometry place < cells_of s.checked.geometry → IsNewest (cell_of s.checked.geometry place) s.queue.writes (Some bytes) → bytes ≡ line_at (seen s) place
line-here s is place bytes within newest = sym (line-now s is (cell_of s.checked.geometry place) (Some bytes) within newest)

-- a line is loaded
pub loads : (s : Contents) (place : Place) (cell : ℕ) (bytes : List ℕ) → AreContents s → s.waiting.requests ≡ [] → cell ≡ cell_of s.checked.geometry place → seen (record s { array = slice_set s.array cell bytes }) ≡ loaded_at (seen s) place bytes
loads s place cell bytes is quiet same = rw (quiet-tickets s cell bytes is quiet, same)
