-- What one port answers, said of all channels.
use Rattle.line_memory.proofs.MemoryLaws.{memory_at-all}
use Rattle.line_memory.proofs.Parting as parting
use Rattle.ddr4_timing.specs.declared.command.Stamped.{Stamped}
use Rattle.channel_port.specs.Answers.{IsBelowHold, IsCollected, IsGot, IsServed, open_read}
use Rattle.channel_port.specs.declared.answers.Collected.{Collected}
use Rattle.channel_port.specs.declared.answers.Collected.TheVariants.{Data, Pending, Unknown}
use Rattle.channel_port.specs.declared.answers.Done.{Done}
use Rattle.channel_port.specs.declared.answers.Got.{Got}
use Rattle.channel_port.specs.declared.answers.Got.TheVariants.{Later, Now}
use Rattle.channel_port.specs.declared.answers.Served.{Served}
use Rattle.channel_port.specs.declared.answers.Served.TheVariants as served
use Rattle.channel_set.proofs.Common.{◌≡◌, ◌≢◌, ◌+◌, ℕ, true, false, sym, ap, subst, ◌∙◌, List, length, slice_get, slice_set, Option, Some, None, IfSome, IfNone, same_Some, after, line_of, written_on, writes_of, Ghosts, Goes, IsNeverGiven, IsNewTicket, Remain, Ticket, Waits, Write, waiting, PortTerms, ArePorts, ChannelSet, NextCommand, view_of, waits_in}
use Rattle.channel_set.proofs.Alike.{seen, seen-set}
use Rattle.channel_set.proofs.Counted.{OwnReads, OwnTickets, given_in, read-here, reads_in, same-waits, ticket-here, writes_in}
use Rattle.channel_set.proofs.Lists.{all-at, all-of}
use Rattle.channel_set.proofs.Piles.{from-pile, has-pile, one-becomes, one-goes, one-joins, one-stays, remain-goes, remain-same}
use Rattle.channel_set.proofs.Written.{below-whole, written-before}

module _ {K : Type 0} (L : Ghosts K) where
  -- what is read of a line is told by the port on which it lies
  pub whole-line : (base : List (List ℕ)) (start : ℕ) (writes : List Write) (line i : ℕ) (channel_of : ℕ → ℕ) → channel_of line ≡ i
      → line_of (after base (writes_of (written_on channel_of i start writes))) line ≡ line_of (after base writes) line
  whole-line base start writes line i channel_of on =
      let end = start + length writes in
      let mine = written_on channel_of (channel_of line) start writes in
      ap (λ c. line_of (after base (writes_of (written_on channel_of c start writes))) line) (sym on)
      ∙ ap (λ ws. line_of (after base (writes_of ws)) line) (sym (below-whole end mine (written-before channel_of (channel_of line) start writes)))
      ∙ sym (parting.told channel_of start end line base writes)
      ∙ ap (λ (memory : List (List ℕ)). line_of memory line) (memory_at-all base start writes)

  -- a ticket that is new in its channel, where it is there, is new in all
  pub new-everywhere : (terms : PortTerms) (ports : List K) → ArePorts L terms ports → OwnReads L → (ticket : Ticket) → ((z : K) → slice_get ports ticket.channel ≡ Some z → IsNewTicket ticket (reads_in L z))
      → IsNewTicket ticket (waits_in L ports).reads
  new-everywhere terms ports are own ticket new = all-of (λ r. r.ticket ≢ ticket) (waits_in L ports).reads (λ k r there named.
      let pile = from-pile (reads_in L) ports r (k, there) in
      let place : pile.place ≡ ticket.channel = sym (read-here L terms ports are own pile.place pile.pile r pile.at pile.has) ∙ ap (λ (t : Ticket). t.channel) named in
      all-at (λ r. r.ticket ≢ ticket) (reads_in L pile.pile) r (new pile.pile (ap (slice_get ports) (sym place) ∙ pile.at)) pile.has named)

  -- a ticket that its channel never gave was never given
  pub never-anywhere : (terms : PortTerms) (ports : List K) → ArePorts L terms ports → OwnTickets L → (ticket : Ticket) → ((z : K) → slice_get ports ticket.channel ≡ Some z → IsNeverGiven ticket (given_in L z))
      → IsNeverGiven ticket (waits_in L ports).given
  never-anywhere terms ports are own ticket never = all-of (λ t. t ≢ ticket) (waits_in L ports).given (λ k t there named.
      let pile = from-pile (given_in L) ports t (k, there) in
      let place : pile.place ≡ ticket.channel = sym (ticket-here L terms ports are own pile.place pile.pile t pile.at pile.has) ∙ ap (λ (x : Ticket). x.channel) named in
      all-at (λ t. t ≢ ticket) (given_in L pile.pile) t (never pile.pile (ap (slice_get ports) (sym place) ∙ pile.at)) pile.has named)

  module _ (terms : PortTerms) (ports : List K) (i : ℕ) (p q : K) (are : ArePorts L terms ports) (at : slice_get ports i ≡ Some p) where
    abbrev pub new_ports : List K
    new_ports = slice_set ports i q

    pub writes-stay : writes_in L q ≡ writes_in L p → (waits_in L new_ports).writes ≡ (waits_in L ports).writes
    writes-stay same = one-stays (writes_in L) ports i p q at same

    reads-stay : reads_in L q ≡ reads_in L p → (waits_in L new_ports).reads ≡ (waits_in L ports).reads
    reads-stay same = one-stays (reads_in L) ports i p q at same

    given-stays : given_in L q ≡ given_in L p → (waits_in L new_ports).given ≡ (waits_in L ports).given
    given-stays same = one-stays (given_in L) ports i p q at same

    pub waits-stay : (L.view q).waits ≡ (L.view p).waits → waits_in L new_ports ≡ waits_in L ports
    waits-stay same =
        same-waits (writes-stay (ap (λ (w : Waits). w.writes) same)) (reads-stay (ap (λ (w : Waits). w.reads) same)) (given-stays (ap (λ (w : Waits). w.given) same))

    new-there : OwnReads L → (ticket : Ticket) → ticket.channel ≡ i → IsNewTicket ticket (reads_in L p) → IsNewTicket ticket (waits_in L ports).reads
    new-there own ticket here new = new-everywhere terms ports are own ticket (λ z there. subst (λ x. IsNewTicket ticket (reads_in L x)) (same_Some p z (sym at ∙ ap (slice_get ports) (sym here) ∙ there)) new)

    never-there : OwnTickets L → (ticket : Ticket) → ticket.channel ≡ i → IsNeverGiven ticket (given_in L p) → IsNeverGiven ticket (waits_in L ports).given
    never-there own ticket here never = never-anywhere terms ports are own ticket (λ z there. subst (λ x. IsNeverGiven ticket (given_in L x)) (same_Some p z (sym at ∙ ap (slice_get ports) (sym here) ∙ there)) never)

    pub got-there : OwnReads L → OwnTickets L → (bytes : List ℕ) (line at' : ℕ) (got : Got) → IsGot bytes line at' (L.view p).number got (L.view p).waits (L.view q).waits
        → IsGot bytes line at' i got (waits_in L ports) (waits_in L new_ports)
    got-there own tickets bytes line at' (Now given) (same, stays) = (same, waits-stay stays)
    got-there own tickets bytes line at' (Later ticket) (here, new, joins, writes, never, gives) =
        let on = here ∙ (are.each i p at).number_is in (
          on,
          new-there own ticket on new,
          one-joins (open_read ticket line bytes at' false) (reads_in L) ports i p q at joins,
          writes-stay writes,
          never-there tickets ticket on never,
          one-joins ticket (given_in L) ports i p q at gives,
        )

    pub collected-there : OwnReads L → (ticket : Ticket) → ticket.channel ≡ i → (r : Collected) → IsCollected ticket r (L.view p).waits (L.view q).waits → IsCollected ticket r (waits_in L ports) (waits_in L new_ports)
    collected-there own ticket here (Data line bytes at') (goes, writes, given) = (one-goes (open_read ticket line bytes at' true) (reads_in L) ports i p q at goes, writes-stay writes, given-stays given)
    collected-there own ticket here Pending (read, has, named, waited, stays) = (read, has-pile (reads_in L) ports i p read at has, named, waited, waits-stay stays)
    collected-there own ticket here Unknown (new, stays) = (new-there own ticket here new, waits-stay stays)

    pub served-there : (served : Option Served) → IsServed (L.view p).hold (L.view p).number served (L.view p).waits (L.view q).waits → IsServed terms.hold i served (waits_in L ports) (waits_in L new_ports)
    served-there None same = waits-stay same
    served-there (Some (served.Write number)) lands =
        let is = are.each i p at in
        record {
          goes = one-goes (waiting number i) (writes_in L) ports i p q at (subst (λ c. Goes (waiting number c) (writes_in L p) (writes_in L q)) is.number_is lands.goes);
          unheld = subst (λ hold. IsBelowHold hold number) is.hold lands.unheld;
          reads = reads-stay lands.reads;
          given = given-stays lands.given;
        }
    served-there (Some (served.Read ticket)) answered =
        let (place, stands, is) = one-becomes answered.read (record answered.read { answered = true }) (reads_in L) ports i p q at (answered.place, answered.stands, answered.reads) in
        record {
          read = answered.read;
          place = place;
          stands = stands;
          named = answered.named;
          waited = answered.waited;
          here = answered.here ∙ (are.each i p at).number_is;
          reads = is;
          writes = writes-stay answered.writes;
          given = given-stays answered.given;
        }

  -- where a port answers, no write of it is new
  pub served-remain : (hold : Option ℕ) (channel : ℕ) (p q : K) (served : Option Served) → IsServed hold channel served (L.view p).waits (L.view q).waits → Remain (writes_in L p) (writes_in L q)
  served-remain hold channel p q None same = remain-same (writes_in L p) (writes_in L q) (ap (λ (w : Waits). w.writes) same)
  served-remain hold channel p q (Some (served.Write number)) lands = remain-goes (waiting number channel) (writes_in L p) (writes_in L q) lands.goes
  served-remain hold channel p q (Some (served.Read ticket)) answered = remain-same (writes_in L p) (writes_in L q) answered.writes

  pub collected-remain : (p q : K) (ticket : Ticket) (r : Collected) → IsCollected ticket r (L.view p).waits (L.view q).waits → Remain (writes_in L p) (writes_in L q)
  collected-remain p q ticket (Data line bytes at') (goes, writes, given) = remain-same (writes_in L p) (writes_in L q) writes
  collected-remain p q ticket Pending (read, has, named, waited, same) = remain-same (writes_in L p) (writes_in L q) (ap (λ (w : Waits). w.writes) same)
  collected-remain p q ticket Unknown (new, same) = remain-same (writes_in L p) (writes_in L q) (ap (λ (w : Waits). w.writes) same)

  -- a command of a port, where it had one
  pub work-served : (terms : PortTerms) (ports : List K) (i : ℕ) (p q : K) → ArePorts L terms ports → slice_get ports i ≡ Some p → (result : Option Done)
      → IfSome result (λ done. IsServed (L.view p).hold (L.view p).number done.served (L.view p).waits (L.view q).waits)
      → IfSome result (λ done. IsServed terms.hold i done.served (waits_in L ports) (waits_in L (slice_set ports i q)))
  work-served terms ports i p q are at None served = tt
  work-served terms ports i p q are at (Some done) served = served-there terms ports i p q are at done.served served

  pub work-next : (channels : ChannelSet K L) (i : ℕ) (p : K) (next : Option Stamped) → slice_get channels.ports.items i ≡ Some p → L.next_command p next → NextCommand L channels i next
  work-next channels i p next at is = λ z there. subst (λ port. L.next_command port next) (same_Some p z (sym at ∙ there)) is

  pub work-stays : (channels : ChannelSet K L) (i : ℕ) (p q : K) → slice_get channels.ports.items i ≡ Some p → (result : Option Done) → IfNone result (L.view q ≡ L.view p)
      → IfNone result (seen L channels.terms channels.costs (slice_set channels.ports.items i q) ≡ view_of L channels)
  work-stays channels i p q at None same =
      seen-set L channels i p q (L.view p).waits at same
      ∙ ap (λ waits. record (view_of L channels) { waits = waits }) (waits-stay channels.terms channels.ports.items i p q channels.are at (ap (λ v. v.waits) same))
  work-stays channels i p q at (Some done) same = tt

  pub work-remain : (hold : Option ℕ) (channel : ℕ) (p q : K) (result : Option Done) → IfSome result (λ done. IsServed hold channel done.served (L.view p).waits (L.view q).waits) → IfNone result (L.view q ≡ L.view p)
      → Remain (writes_in L p) (writes_in L q)
  work-remain hold channel p q None served same = remain-same (writes_in L p) (writes_in L q) (ap (λ v. v.waits.writes) same)
  work-remain hold channel p q (Some done) served same = served-remain hold channel p q done.served served
