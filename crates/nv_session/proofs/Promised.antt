-- What an open read was promised it gets, whatever is worked meanwhile.
use Rattle.std.proofs.Common.{◌≡◌, ℕ, List, ◌∷◌, suc, refl, sym, subst, All, Option, Some, None, true, false, take, drop, slice_get}
use Rattle.std.specs.Prelude.{insert, remove}
use Rattle.std.proofs.lemmas.List.Elements.{All-append, All-take, All-drop, All-cons, All-set, All-get_or}
use Rattle.std.proofs.lemmas.Option.{slice_get_within, get_or_from_slice_get}
use Rattle.channel_port.specs.declared.answers.Ticket.{Ticket}
use Rattle.channel_port.specs.declared.answers.Collected.{Collected}
use Rattle.channel_port.specs.declared.answers.Collected.TheVariants.{Data, Pending, Unknown}
use Rattle.channel_port.specs.declared.answers.Served.{Served}
use Rattle.channel_port.specs.declared.answers.Served.TheVariants as served
use Rattle.channel_port.specs.Waits.{OpenRead, Waits, IsNewTicket}
use Rattle.channel_port.specs.Answers.{IsCollected, IsServed, open_read}

-- what holds of each item holds of the one at a place
pub all_at : {X : Type 0} (P : X → Type 0) (xs : List X) (i : ℕ) (x : X) → All P xs → slice_get xs i ≡ Some x → P x
all_at P xs i x all is = subst P (get_or_from_slice_get xs i x x is) (All-get_or P xs i x (slice_get_within xs i x is) all)

pub all_inserted : {X : Type 0} (P : X → Type 0) (xs : List X) (i : ℕ) (x : X) → All P xs → P x → All P (insert xs i x)
all_inserted P xs i x all it = All-append P (take i xs) (x ∷ drop i xs) (All-take P i xs all) (All-cons P x (drop i xs) it (All-drop P i xs all))

pub all_removed : {X : Type 0} (P : X → Type 0) (xs : List X) (i : ℕ) → All P xs → All P (remove xs i)
all_removed P xs i all = All-append P (take i xs) (drop (suc i) xs) (All-take P i xs all) (All-drop P (suc i) xs all)

-- this read has the bytes, if it is the ticket's
abbrev pub Has : Ticket → List ℕ → OpenRead → Type 0
Has ticket bytes r = r.ticket ≡ ticket → r.bytes ≡ bytes

pub promised_collected : (ticket other : Ticket) (bytes : List ℕ) (answer : Collected) (old new : Waits)
    → IsCollected other answer old new → All (Has ticket bytes) old.reads → All (Has ticket bytes) new.reads
promised_collected ticket other bytes (Data line got at) old new told all =
    subst (λ (rs : List OpenRead). All (Has ticket bytes) rs) (sym told.0.2) (all_removed (Has ticket bytes) old.reads told.0.0 all)
promised_collected ticket other bytes Pending old new told all = subst (λ (w : Waits). All (Has ticket bytes) w.reads) (sym told.4) all
promised_collected ticket other bytes Unknown old new told all = subst (λ (w : Waits). All (Has ticket bytes) w.reads) (sym told.1) all

pub promised_given : (ticket : Ticket) (bytes : List ℕ) (line : ℕ) (got : List ℕ) (at : ℕ) (old new : Waits)
    → IsCollected ticket (Data line got at) old new → All (Has ticket bytes) old.reads → got ≡ bytes
promised_given ticket bytes line got at old new told all = all_at (Has ticket bytes) old.reads told.0.0 (open_read ticket line got at true) all told.0.1 refl

pub promised_served : (ticket : Ticket) (bytes : List ℕ) (hold : Option ℕ) (channel : ℕ) (answer : Option Served) (old new : Waits)
    → IsServed hold channel answer old new → All (Has ticket bytes) old.reads → All (Has ticket bytes) new.reads
promised_served ticket bytes hold channel None old new told all = subst (λ (w : Waits). All (Has ticket bytes) w.reads) (sym told) all
promised_served ticket bytes hold channel (Some (served.Write number)) old new told all =
    subst (λ (rs : List OpenRead). All (Has ticket bytes) rs) (sym told.reads) all
promised_served ticket bytes hold channel (Some (served.Read other)) old new told all =
    subst (λ (rs : List OpenRead). All (Has ticket bytes) rs) (sym told.reads)
    (All-set (Has ticket bytes) old.reads told.place (record told.read { answered = true }) (all_at (Has ticket bytes) old.reads told.place told.read all told.stands) all)

-- a new ticket is promised the bytes that it is to have
pub promised_new : (ticket : Ticket) (line : ℕ) (bytes : List ℕ) (at place : ℕ) (reads : List OpenRead)
    → IsNewTicket ticket reads → All (Has ticket bytes) (insert reads place (open_read ticket line bytes at false))
promised_new ticket line bytes at place reads fresh =
    all_inserted (Has ticket bytes) reads place (open_read ticket line bytes at false) (λ k d less same. absurd (fresh k d less same)) (λ same. refl)
