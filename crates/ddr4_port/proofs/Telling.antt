-- What a channel answers, as its port.
use Rattle.std.proofs.Common.{All, ◌≡◌, ◌≢◌, ◌+◌, ◌<◌, ℕ, zero, suc, false, true, List, [], ◌∷◌, ◌++◌, get_or, length, map, slice_get, slice_set, Ok, Option, Some, None, inl, inr, refl, sym, ap, ◌∙◌, arith}
use Rattle.std.proofs.lemmas.List.Edits.{insert_end}
use Rattle.std.proofs.lemmas.List.FromFn.{get_or-range_with_len, length-range_with_len, map-range_with_len_more}
use Rattle.std.proofs.lemmas.Option.{get_or_from_slice_get, slice_get-get_or, slice_get_within}
use Rattle.std.specs.List.{range_with_len}
use Rattle.ddr4_port.proofs.Common.{AnswersCollect, AnswersGet, ChannelState, Done, HasRightContents, IfSome}
use Rattle.ddr4_port.proofs.Common.{IsNeverGiven, IsNewTicket, IssuesChoice, OpenRead, PendingWrite, Place, ServesIndex}
use Rattle.ddr4_port.proofs.Common.{ServesRequest, after_get, before_removal, line_at, map-append, map-remove}
use Rattle.ddr4_port.proofs.Common.{open_on, ticket_on, waiting, waiting_on, waits_of}
use Rattle.frfcfs.proofs.Lists.{All-at}
use Rattle.request_notes.specs.declared.pending.Pending.{Pending}
use Rattle.channel_port.specs.declared.answers.Collected.{Collected}
use Rattle.channel_port.specs.declared.answers.Collected.TheVariants as collected
use Rattle.channel_port.specs.declared.answers.Got.{Got}
use Rattle.channel_port.specs.declared.answers.Got.TheVariants.{Later, Now}
use Rattle.channel_port.specs.declared.answers.Served.{Served}
use Rattle.channel_port.specs.declared.answers.Served.TheVariants as served
use Rattle.channel_port.specs.declared.answers.Ticket.{Ticket}
use Rattle.channel_port.specs.Answers.{IsBelowHold, IsCollected, IsGot, IsServed, open_read}
use Rattle.channel_port.specs.Waits.{Joins}
use Rattle.channel_set.proofs.Counted.{same-waits}
use Rattle.chan_core.proofs.Kept.{map-at, map-from}
use Rattle.ddr4_port.proofs.Numbers.{AmongWrites}

map-set : {X Y : Type 0} (f : X → Y) (xs : List X) (i : ℕ) (x : X) → map f (slice_set xs i x) ≡ slice_set (map f xs) i (f x)
map-set f [] i x = refl
map-set f (y ∷ xs) zero x = refl
map-set f (y ∷ xs) (suc i) x = ap (λ rest. f y ∷ rest) (map-set f xs i x)

all-from : {X : Type 0} (P : X → Type 0) (xs : List X) → ((k : ℕ) (x : X) → slice_get xs k ≡ Some x → P x) → All P xs
all-from P xs each k d less = each k (get_or xs k d) (slice_get-get_or xs k d less)

-- the tickets of the serials below the next one
abbrev tickets_below : ℕ → ℕ → List Ticket
tickets_below channel serial = map (ticket_on channel) (range_with_len 0 serial)

-- a read
module _ (s t : ChannelState) (contents : HasRightContents s) (rest : t ≡ after_get s t) where
  new-ticket : (ticket : Ticket) → ticket ≡ record { channel = s.channel; serial = s.serial } → IsNewTicket ticket (map (open_on s.channel) s.tickets)
  new-ticket ticket named =
      all-from (λ (r : OpenRead). r.ticket ≢ ticket) (map (open_on s.channel) s.tickets) (λ k r there taken.
      let (v, stood, is) = map-from (open_on s.channel) s.tickets k r there in
      let less = All-at (λ u. u.serial < s.serial) s.tickets k v contents.serials.below stood in
      omega (arith, less, ap (λ (o : OpenRead). o.ticket.serial) is, ap (λ (x : Ticket). x.serial) taken, ap (λ (x : Ticket). x.serial) named))

  never-given : (ticket : Ticket) → ticket ≡ record { channel = s.channel; serial = s.serial } → IsNeverGiven ticket (tickets_below s.channel s.serial)
  never-given ticket named =
      all-from (λ (x : Ticket). x ≢ ticket) (tickets_below s.channel s.serial) (λ k x there taken.
      let (n, stood, is) = map-from (ticket_on s.channel) (range_with_len 0 s.serial) k x there in
      let within : k < s.serial = omega (arith, slice_get_within (range_with_len 0 s.serial) k n stood, length-range_with_len 0 s.serial) in
      let number = sym (get_or_from_slice_get (range_with_len 0 s.serial) k n n stood) ∙ get_or-range_with_len 0 s.serial k n within in
      omega (arith, within, number, ap (λ (o : Ticket). o.serial) is, ap (λ (o : Ticket). o.serial) taken, ap (λ (o : Ticket). o.serial) named))

  gives : (ticket : Ticket) → ticket ≡ record { channel = s.channel; serial = s.serial } → t.channel ≡ s.channel → t.serial ≡ s.serial + 1 → Joins ticket (waits_of s).given (waits_of t).given
  gives ticket named channel serial =
      let old = tickets_below s.channel s.serial in (
        length old,
        omega arith,
        ap (λ (c : ℕ). tickets_below c t.serial) channel
            ∙ ap (tickets_below s.channel) serial
            ∙ map-range_with_len_more (ticket_on s.channel) 0 s.serial s.serial (omega arith)
            ∙ ap (λ (x : Ticket). old ++ x ∷ []) (sym named)
            ∙ sym (insert_end old ticket),
      )

  pub tells-got : (place : Place) (line at : ℕ) (bytes : List ℕ) (got : Got) → line_at s place ≡ bytes → AnswersGet s place line at (Ok got) t → IsGot bytes line at s.channel got (waits_of s) (waits_of t)
  tells-got place line at bytes (Now given) value answers = (answers.2 ∙ value, ap waits_of answers.3)
  tells-got place line at bytes (Later ticket) value answers =
      let named : ticket ≡ record { channel = s.channel; serial = s.serial } = answers.2 in
      let f = open_on s.channel in
      let r = open_read ticket line bytes at false in
      let last : f (record { serial = s.serial; line = line; at = at; bytes = line_at s place; answered = false }) ≡ r =
      ap (λ (x : Ticket). open_read x line (line_at s place) at false) (sym named) ∙ ap (λ b. open_read ticket line b at false) value in (
        ap (λ (x : Ticket). x.channel) named,
        new-ticket ticket named,
        (
          length (map f s.tickets),
          omega arith,
          ap (λ (x : ChannelState). map (open_on x.channel) x.tickets) answers.3.same
              ∙ map-append f s.tickets (record { serial = s.serial; line = line; at = at; bytes = line_at s place; answered = false } ∷ [])
              ∙ ap (λ x. map f s.tickets ++ x ∷ []) last
              ∙ sym (insert_end (map f s.tickets) r),
        ),
        ap (λ (x : ChannelState). map (waiting_on x.channel) x.writes) rest,
        never-given ticket named,
        gives ticket named (ap (λ (x : ChannelState). x.channel) rest) (ap (λ (x : ChannelState). x.serial) answers.3.same),
      )

-- a ticket
module _ (s t : ChannelState) (ticket : Ticket) (here : ticket.channel ≡ s.channel) (rest : t ≡ record s { tickets = t.tickets }) where
  same-waiting : t.tickets ≡ s.tickets → waits_of t ≡ waits_of s
  same-waiting same = ap waits_of rest ∙ ap (λ ts. waits_of (record s { tickets = ts })) same

  same-writes : map (waiting_on t.channel) t.writes ≡ map (waiting_on s.channel) s.writes
  same-writes = ap (λ (x : ChannelState). map (waiting_on x.channel) x.writes) rest

  pub tells-collected : (r : Collected) → AnswersCollect s ticket r t.tickets → IsCollected ticket r (waits_of s) (waits_of t)
  tells-collected (collected.Data line bytes at) (e, i, stands, is) = (
    (
      i,
      map-at (open_on s.channel) s.tickets i (record { serial = ticket.serial; line = line; at = at; bytes = bytes; answered = true }) stands
          ∙ ap (λ (c : ℕ). Some (open_read (record { channel = c; serial = ticket.serial }) line bytes at true)) (sym here),
      ap (λ (x : ChannelState). map (open_on x.channel) t.tickets) rest ∙ ap (map (open_on s.channel)) is ∙ map-remove (open_on s.channel) s.tickets i,
    ),
    same-writes,
    ap (λ (x : ChannelState). tickets_below x.channel x.serial) rest,
  )
  tells-collected collected.Pending (e, i, read, stands, serial, answered, same) = (
    open_on s.channel read,
    (i, map-at (open_on s.channel) s.tickets i read stands),
    ap (λ (n : ℕ). record { channel = s.channel; serial = n }) serial ∙ ap (λ (c : ℕ). record { channel = c; serial = ticket.serial }) (sym here),
    answered,
    same-waiting same,
  )
  tells-collected collected.Unknown (none, same) = (
    all-from (λ (r : OpenRead). r.ticket ≢ ticket) (map (open_on s.channel) s.tickets) (λ k r there named.
        let (read, stands, is) = map-from (open_on s.channel) s.tickets k r there in
        none here k read stands (ap (λ (x : OpenRead). x.ticket.serial) is ∙ ap (λ (x : Ticket). x.serial) named)),
    same-waiting same,
  )

-- a command
below-hold : (hold : Option ℕ) (number : ℕ) → ((n : ℕ) → hold ≡ Some n → number < n) → IsBelowHold hold number
below-hold None number less = tt
below-hold (Some n) number less = less n refl

module _ (s t : ChannelState) (channel : t.channel ≡ s.channel) (serial : t.serial ≡ s.serial) where
  writes-stay : t.writes ≡ s.writes → (waits_of t).writes ≡ (waits_of s).writes
  writes-stay same = ap (λ c. map (waiting_on c) t.writes) channel ∙ ap (map (waiting_on s.channel)) same

  reads-stay : t.tickets ≡ s.tickets → (waits_of t).reads ≡ (waits_of s).reads
  reads-stay same = ap (λ c. map (open_on c) t.tickets) channel ∙ ap (map (open_on s.channel)) same

  given-stays : (waits_of t).given ≡ (waits_of s).given
  given-stays = ap (λ c. tickets_below c t.serial) channel ∙ ap (tickets_below s.channel) serial

  serves : (request : Pending) (is : Served) → ServesRequest s request is t → IsServed s.hold s.channel (Some is) (waits_of s) (waits_of t)
  serves request (served.Write number) moves =
      let (k, w, stands, named, bytes, gone) = moves.writes in
      record {
        goes = (
          k,
          map-at (waiting_on s.channel) s.writes k w stands ∙ ap (λ n. Some (waiting n s.channel)) named,
          ap (λ c. map (waiting_on c) t.writes) channel ∙ ap (map (waiting_on s.channel)) gone ∙ map-remove (waiting_on s.channel) s.writes k,
        );
        unheld = below-hold s.hold number moves.unheld;
        reads = reads-stay moves.tickets;
        given = given-stays;
      }
  serves request (served.Read ticket) answers =
      let read = open_on s.channel answers.read in
      record {
        read = read;
        place = answers.index;
        stands = map-at (open_on s.channel) s.tickets answers.index answers.read answers.here;
        named = sym answers.named;
        waited = answers.waits;
        here = ap (λ (x : Ticket). x.channel) answers.named;
        reads = ap (λ c. map (open_on c) t.tickets) channel ∙ ap (map (open_on s.channel)) answers.tickets ∙ map-set (open_on s.channel) s.tickets answers.index (record answers.read { answered = true });
        writes = writes-stay answers.writes;
        given = given-stays;
      }

  serves-index : (index : Option ℕ) (is : Option Served) → ServesIndex index is s t → IsServed s.hold s.channel is (waits_of s) (waits_of t)
  serves-index (Some index) (Some is) serve = serves serve.p is serve.serves
  serves-index (Some index) None serve = absurd serve
  serves-index None (Some is) serve = absurd serve
  serves-index None None serve = same-waits (writes-stay serve.writes) (reads-stay serve.tickets) given-stays

pub tells-served : (s t : ChannelState) (result : Option Done) → IfSome result (λ done. IssuesChoice s done t) → IfSome result (λ done. IsServed s.hold s.channel done.served (waits_of s) (waits_of t))
tells-served s t None issues = tt
tells-served s t (Some done) issues = serves-index s t (ap (λ (x : ChannelState). x.channel) issues.same) (ap (λ (x : ChannelState). x.serial) issues.same) issues.index done.served issues.serves

-- no write comes with a command
request-among : (s t : ChannelState) (request : Pending) (is : Served) → ServesRequest s request is t → AmongWrites s.writes t.writes
request-among s t request (served.Write number) moves m w there =
    let (k, v, stands, named, bytes, gone) = moves.writes in
    elim (before_removal s.writes k m w (slice_get_within s.writes k v stands) (ap (λ (ws : List PendingWrite). slice_get ws m) (sym gone) ∙ there)) [
      | inl b ↦ (m, b.1)
      | inr b ↦ (suc m, b.1)
    ]
request-among s t request (served.Read ticket) answers m w there = (m, ap (λ (ws : List PendingWrite). slice_get ws m) (sym answers.writes) ∙ there)

pub served-among : (s t : ChannelState) (index : Option ℕ) (is : Option Served) → ServesIndex index is s t → AmongWrites s.writes t.writes
served-among s t (Some index) (Some is) serve m w there = request-among s t serve.p is serve.serves m w there
served-among s t (Some index) None serve m w there = absurd serve
served-among s t None (Some is) serve m w there = absurd serve
served-among s t None None serve m w there = (m, ap (λ (ws : List PendingWrite). slice_get ws m) (sym serve.writes) ∙ there)
