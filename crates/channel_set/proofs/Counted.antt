-- How much waits on a channel, and whose it is.
use Rattle.channel_set.proofs.Common.{◌≡◌, ◌==◌, ◌<◌, ℕ, eqb, sym, ap, ◌∙◌, All, List, length, slice_get, Some, Ghosts, Has, OpenRead, Ticket, Waiting, Waits, AllBelow, is_read_on, is_write_on, reads_on, writes_on, PortTerms, ArePorts, waits_in}
use Rattle.channel_set.proofs.Lists.{all-at, all-of}
use Rattle.channel_set.proofs.Piles.{count-on, has-pile}

-- what waits is the same, and what was given
pub same-waits : {a b : List Waiting} {x y : List OpenRead} {t u : List Ticket} → a ≡ b → x ≡ y → t ≡ u → ◌≡◌ {A = Waits} (record { writes = a; reads = x; given = t }) (record { writes = b; reads = y; given = u })
same-waits {a} {b} {x} {y} {t} {u} writes reads given =
    ap (λ (ws : List Waiting). record { writes = ws; reads = x; given = t }) writes
    ∙ ap (λ (rs : List OpenRead). record { writes = b; reads = rs; given = t }) reads
    ∙ ap (λ (ts : List Ticket). record { writes = b; reads = y; given = ts }) given

module _ {K : Type 0} (L : Ghosts K) where
  abbrev pub writes_in : K → List Waiting
  writes_in port = (L.view port).waits.writes

  abbrev pub reads_in : K → List OpenRead
  reads_in port = (L.view port).waits.reads

  abbrev pub given_in : K → List Ticket
  given_in port = (L.view port).waits.given

  -- what waits in a port is its own
  abbrev pub OwnWrites : Type 0
  OwnWrites = (port : K) → All (λ w. w.channel ≡ (L.view port).number) (writes_in port)

  abbrev pub OwnReads : Type 0
  OwnReads = (port : K) → All (λ r. r.ticket.channel ≡ (L.view port).number) (reads_in port)

  -- and its tickets name it
  abbrev pub OwnTickets : Type 0
  OwnTickets = (port : K) → All (λ t. t.channel ≡ (L.view port).number) (given_in port)

  module _ (terms : PortTerms) (ports : List K) (are : ArePorts L terms ports) where
    pub write-here : OwnWrites → (j : ℕ) (q : K) (w : Waiting) → slice_get ports j ≡ Some q → Has w (writes_in q) → w.channel ≡ j
    write-here own j q w at has = all-at (λ w. w.channel ≡ (L.view q).number) (writes_in q) w (own q) has ∙ (are.each j q at).number_is

    pub read-here : OwnReads → (j : ℕ) (q : K) (r : OpenRead) → slice_get ports j ≡ Some q → Has r (reads_in q) → r.ticket.channel ≡ j
    read-here own j q r at has = all-at (λ r. r.ticket.channel ≡ (L.view q).number) (reads_in q) r (own q) has ∙ (are.each j q at).number_is

    pub ticket-here : OwnTickets → (j : ℕ) (q : K) (t : Ticket) → slice_get ports j ≡ Some q → Has t (given_in q) → t.channel ≡ j
    ticket-here own j q t at has = all-at (λ t. t.channel ≡ (L.view q).number) (given_in q) t (own q) has ∙ (are.each j q at).number_is

    pub writes-there : OwnWrites → (i : ℕ) (p : K) → slice_get ports i ≡ Some p → writes_on i (waits_in L ports).writes ≡ length (writes_in p)
    writes-there own i p at = count-on (is_write_on i) writes_in ports i p at (λ j q w there has. ap (λ n. eqb n i) (write-here own j q w there has))

    pub reads-there : OwnReads → (i : ℕ) (p : K) → slice_get ports i ≡ Some p → reads_on i (waits_in L ports).reads ≡ length (reads_in p)
    reads-there own i p at = count-on (is_read_on i) reads_in ports i p at (λ j q r there has. ap (λ n. eqb n i) (read-here own j q r there has))

    -- whether it is full
    pub full-there : OwnWrites → (i : ℕ) (p : K) → slice_get ports i ≡ Some p → (length (writes_in p) == (L.view p).depth) ≡ (writes_on i (waits_in L ports).writes == terms.depth)
    full-there own i p at = ap (λ n. n == (L.view p).depth) (sym (writes-there own i p at)) ∙ ap (λ n. writes_on i (waits_in L ports).writes == n) (are.each i p at).depth

    pub full-of-reads-there : OwnReads → (i : ℕ) (p : K) → slice_get ports i ≡ Some p → (length (reads_in p) == (L.view p).most_reads) ≡ (reads_on i (waits_in L ports).reads == terms.most_reads)
    full-of-reads-there own i p at = ap (λ n. n == (L.view p).most_reads) (sym (reads-there own i p at)) ∙ ap (λ n. reads_on i (waits_in L ports).reads == n) (are.each i p at).most_reads

  -- a number above those of all writes is above those of each port
  pub above-there : (number : ℕ) (ports : List K) (i : ℕ) (p : K) → slice_get ports i ≡ Some p → AllBelow number (waits_in L ports).writes → AllBelow number (writes_in p)
  above-there number ports i p at above = all-of (λ w. w.number < number) (writes_in p) (λ k w there.
      all-at (λ w. w.number < number) (waits_in L ports).writes w above (has-pile writes_in ports i p w at (k, there)))
