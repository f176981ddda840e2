-- A read, at once or awaited.
use Rattle.std.proofs.Common.{◌≡◌, ℕ, ◌<◌, List, [], ◌∷◌, ◌++◌, refl, sym, ap, subst, ◌∙◌, None, Ok, Err, All, inl, inr, arith}
use Rattle.nv_session.proofs.Common.{AnswersAlone, AwaitsLine, ComesAlone, Event, Ghosts, IsPromised, Machine, Module}
use Rattle.nv_session.proofs.Common.{ReadStep, ReadsLine, Reply, SameButWaits, SeesLine, SeesPromised, Setup, all_of}
use Rattle.nv_session.proofs.Common.{assembly, memory_of, setup_of}
use Rattle.channel_port.specs.declared.answers.Ticket.{Ticket}
use Rattle.channel_port.specs.declared.answers.Got.TheVariants.{Now, Later}
use Rattle.channel_port.specs.Waits.{OpenRead}
use Rattle.line_memory.specs.Memory.{line_of}
use Rattle.nv_machine.specs.declared.events.Event.TheVariants as events
use Rattle.nv_machine.specs.declared.events.Reply.TheVariants as replies
use Rattle.arm_state.specs.declared.refusal.ReadRefusal.{ReadRefusal}
use Rattle.nv_machine.specs.Refusals.{read_refusal}
use Rattle.nv_session.specs.declared.turns.LineSeen.{LineSeen}
use Rattle.nv_session.specs.declared.turns.LineSeen.TheVariants.{Content}
use Rattle.nv_session.proofs.Coming.{Starts, starts_at, comes_further, comes_on}
use Rattle.nv_session.proofs.Promised.{Has, promised_new}
use Rattle.nv_session.proofs.Awaiting.{same_after}

-- a ticket was given for a line
record PromisesLine (setup : Setup) (line : ℕ) (ticket : Ticket) (asked : List Event) (told : List Reply) (old new : Machine) : Type 0 where
  asked_is : asked ≡ events.Read line ∷ []
  told_is : told ≡ replies.Read (Ok (Later ticket)) ∷ []
  unrefused : read_refusal setup old line ≡ None
  promised : IsPromised ticket (line_of (memory_of old) line) new
  same : SameButWaits old new

-- one behind none
none_more : {X : Type 0} (none : List X) (it : X) → none ≡ [] → none ++ it ∷ [] ≡ it ∷ []
none_more none it is = ap (λ xs. xs ++ it ∷ []) is

now_seen : (setup : Setup) (line : ℕ) (bytes : List ℕ) (es : List Event) (rs : List Reply) (m n l : Machine)
    → Starts es rs m n → ReadStep setup line (Ok (Now bytes)) n l → ReadsLine setup line (Ok (Content bytes)) (es ++ events.Read line ∷ []) (rs ++ replies.Read (Ok (Now bytes)) ∷ []) m l
now_seen setup line bytes es rs m n l told step =
    let fs : List Event = es ++ events.Read line ∷ [] in let ts : List Reply = rs ++ replies.Read (Ok (Now bytes)) ∷ [] in
    record {
      sees = subst (λ (x : Machine). SeesLine setup line (Ok (Content bytes)) fs ts x l) told.same (step.0, step.1.0, step.2);
      are = inl (record { bytes = bytes; seen_is = refl; asked_is = none_more es (events.Read line) told.unasked; told_is = none_more rs (replies.Read (Ok (Now bytes))) told.untold });
    }

later_promised : (setup : Setup) (line : ℕ) (ticket : Ticket) (es : List Event) (rs : List Reply) (m n l : Machine)
    → Starts es rs m n → ReadStep setup line (Ok (Later ticket)) n l → PromisesLine setup line ticket (es ++ events.Read line ∷ []) (rs ++ replies.Read (Ok (Later ticket)) ∷ []) m l
later_promised setup line ticket es rs m n l told step =
    let fs : List Event = es ++ events.Read line ∷ [] in let ts : List Reply = rs ++ replies.Read (Ok (Later ticket)) ∷ [] in
    let bytes : List ℕ = line_of (memory_of n) line in let joins = step.1.2 in
    subst (λ (x : Machine). PromisesLine setup line ticket fs ts x l) told.same
    (record {
      asked_is = none_more es (events.Read line) told.unasked;
      told_is = none_more rs (replies.Read (Ok (Later ticket))) told.untold;
      unrefused = step.0;
      promised = subst (λ (reads : List OpenRead). All (Has ticket bytes) reads) (sym joins.2) (promised_new ticket line bytes (all_of n) joins.0 n.waits.reads step.1.1);
      same = step.2;
    })

refused_seen : (setup : Setup) (line : ℕ) (refusal : ReadRefusal) (es : List Event) (rs : List Reply) (m n l : Machine)
    → Starts es rs m n → ReadStep setup line (Err refusal) n l → ReadsLine setup line (Err refusal) (es ++ events.Read line ∷ []) (rs ++ replies.Read (Err refusal) ∷ []) m l
refused_seen setup line refusal es rs m n l told step =
    let fs : List Event = es ++ events.Read line ∷ [] in let ts : List Reply = rs ++ replies.Read (Err refusal) ∷ [] in
    record {
      sees = subst (λ (x : Machine). SeesLine setup line (Err refusal) fs ts x l) told.same (step.0, step.1);
      are = (none_more es (events.Read line) told.unasked, none_more rs (replies.Read (Err refusal)) told.untold);
    }

promise_kept : (setup : Setup) (line : ℕ) (ticket : Ticket) (seen : LineSeen) (es fs : List Event) (rs ts : List Reply) (m n l : Machine)
    → PromisesLine setup line ticket es rs m n → AwaitsLine ticket seen fs ts n l → ReadsLine setup line (Ok seen) (es ++ fs) (rs ++ ts) m l
promise_kept setup line ticket seen es fs rs ts m n l told next =
    let sees : SeesPromised ticket seen fs ts n l = next.sees in
    record {
      sees = (told.unrefused, sees.promised (line_of (memory_of m) line) told.promised, same_after m n l told.same sees.same);
      are = inr (record {
        ticket = ticket;
        after = fs;
        later = ts;
        awaited = next.are;
        asked_is = ap (λ (xs : List Event). xs ++ fs) told.asked_is;
        told_is = ap (λ (xs : List Reply). xs ++ ts) told.told_is;
      });
    }

-- a read that isn't refused is of a line of the module
line_below : (setup : Setup) (m : Machine) (line : ℕ) → read_refusal setup m line ≡ None → line < setup.shape.lines
line_below setup m line unrefused = grind arith

module _ {K : Type 0} (L : Ghosts K) where
  pub sees_now : (line : ℕ) (bytes : List ℕ) (old new : Module K L) → AnswersAlone L (events.Read line) (replies.Read (Ok (Now bytes))) old new
      → ComesAlone L (ReadsLine (setup_of L old) line (Ok (Content bytes))) old new
  sees_now line bytes old new answers device gauge =
      comes_further L Starts (ReadsLine (setup_of L old) line (Ok (Content bytes))) (events.Read line) (replies.Read (Ok (Now bytes))) (assembly old device gauge) (assembly old device gauge) (assembly new device gauge) refl
      (starts_at L (assembly old device gauge)) (answers device gauge)
      (λ es rs m n l stands told happens. now_seen (setup_of L old) line bytes es rs m n l told happens.step.1)

  pub sees_refusal : (line : ℕ) (refusal : ReadRefusal) (old new : Module K L) → AnswersAlone L (events.Read line) (replies.Read (Err refusal)) old new
      → ComesAlone L (ReadsLine (setup_of L old) line (Err refusal)) old new
  sees_refusal line refusal old new answers device gauge =
      comes_further L Starts (ReadsLine (setup_of L old) line (Err refusal)) (events.Read line) (replies.Read (Err refusal)) (assembly old device gauge) (assembly old device gauge) (assembly new device gauge) refl
      (starts_at L (assembly old device gauge)) (answers device gauge)
      (λ es rs m n l stands told happens. refused_seen (setup_of L old) line refusal es rs m n l told happens.step.1)

  promises_later : (line : ℕ) (ticket : Ticket) (old new : Module K L) → AnswersAlone L (events.Read line) (replies.Read (Ok (Later ticket))) old new
      → ComesAlone L (PromisesLine (setup_of L old) line ticket) old new
  promises_later line ticket old new answers device gauge =
      comes_further L Starts (PromisesLine (setup_of L old) line ticket) (events.Read line) (replies.Read (Ok (Later ticket))) (assembly old device gauge) (assembly old device gauge) (assembly new device gauge) refl
      (starts_at L (assembly old device gauge)) (answers device gauge)
      (λ es rs m n l stands told happens. later_promised (setup_of L old) line ticket es rs m n l told happens.step.1)

  -- its ticket is of its line's channel
  pub sees_later : (line channel : ℕ) (ticket : Ticket) (seen : LineSeen) (old mid new : Module K L) → setup_of L mid ≡ setup_of L old
      → (line < (setup_of L old).shape.lines → channel ≡ (setup_of L old).shape.channel_of line)
      → AnswersAlone L (events.Read line) (replies.Read (Ok (Later ticket))) old mid → (channel ≡ ticket.channel → ComesAlone L (AwaitsLine ticket seen) mid new)
      → ComesAlone L (ReadsLine (setup_of L old) line (Ok seen)) old new
  sees_later line channel ticket seen old mid new same is answers next device gauge m stands =
      let step = (answers device gauge m stands).2.happens.step.1 in
      let here : channel ≡ ticket.channel = is (line_below (setup_of L old) m line step.0) ∙ sym step.1.0 in
      comes_on L (PromisesLine (setup_of L old) line ticket) (AwaitsLine ticket seen) (ReadsLine (setup_of L old) line (Ok seen)) (assembly old device gauge) (assembly mid device gauge) (assembly new device gauge) same
      (promises_later line ticket old mid answers device gauge) (next here device gauge)
      (λ es fs rs ts m n l told later. promise_kept (setup_of L old) line ticket seen es fs rs ts m n l told later) m stands
