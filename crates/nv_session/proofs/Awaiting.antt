-- A read that is awaited, by the calls that are made meanwhile.
use Rattle.std.proofs.Common.{◌≡◌, ℕ, suc, ◌<◌, ◌≤◌, List, [], ◌∷◌, ◌++◌, ◌∙◌, refl, sym, ap, subst, Option, Some, None, inl, inr, append_assoc, arith}
use Rattle.nv_session.proofs.Common.{AnswersAlone, AwaitsLine, AwaitsRead, CollectStep, ComesAlone, Event, Ghosts}
use Rattle.nv_session.proofs.Common.{IsNothing, Machine, Module, Reply, SameButWaits, SeesPromised, Setup, TakesReadTurns}
use Rattle.nv_session.proofs.Common.{WorkStep, assembly, hold_of, setup_of}
use Rattle.channel_port.specs.declared.answers.Ticket.{Ticket}
use Rattle.channel_port.specs.declared.answers.Collected.{Collected}
use Rattle.channel_port.specs.declared.answers.Collected.TheVariants.{Data, Pending, Unknown}
use Rattle.channel_port.specs.declared.answers.Done.{Done}
use Rattle.nv_machine.specs.declared.events.Event.TheVariants as events
use Rattle.nv_machine.specs.declared.events.Reply.TheVariants as replies
use Rattle.nv_session.specs.declared.turns.LineSeen.TheVariants.{Content, Waiting}
use Rattle.nv_session.proofs.Coming.{comes_to_itself, comes_further, comes_retold}
use Rattle.nv_session.proofs.Promised.{promised_collected, promised_given, promised_served}

pub same_after : (m n l : Machine) → SameButWaits m n → SameButWaits n l → SameButWaits m l
same_after m n l first next = next ∙ ap (λ (x : Machine). record x { waits = l.waits }) first

awaits_collected : (ticket other : Ticket) (answer : Collected) (es fs : List Event) (rs ts : List Reply) (m n l : Machine)
    → AwaitsRead ticket es rs m n → CollectStep other answer n l → AwaitsRead ticket fs ts m l
awaits_collected ticket other answer es fs rs ts m n l told step =
    record { same = same_after m n l told.same step.1; keeps = λ bytes promised. promised_collected ticket other bytes answer n.waits l.waits step.0 (told.keeps bytes promised) }

awaits_worked : (ticket : Ticket) (setup : Setup) (channel : ℕ) (done : Option Done) (es fs : List Event) (rs ts : List Reply) (m n l : Machine)
    → AwaitsRead ticket es rs m n → WorkStep setup channel done n l → AwaitsRead ticket fs ts m l
awaits_worked ticket setup channel None es fs rs ts m n l told step = subst (λ (x : Machine). AwaitsRead ticket fs ts m x) (sym step) (record { same = told.same; keeps = told.keeps })
awaits_worked ticket setup channel (Some done) es fs rs ts m n l told step =
    record {
      same = same_after m n l told.same step.2;
      keeps = λ bytes promised. promised_served ticket bytes (hold_of n.store.saving) channel done.served n.waits l.waits step.1 (told.keeps bytes promised);
    }

sees_given : (ticket : Ticket) (line : ℕ) (bytes : List ℕ) (at : ℕ) (es fs : List Event) (rs ts : List Reply) (m n l : Machine)
    → AwaitsRead ticket es rs m n → CollectStep ticket (Data line bytes at) n l → SeesPromised ticket (Content bytes) fs ts m l
sees_given ticket line bytes at es fs rs ts m n l told step =
    record { same = same_after m n l told.same step.1; promised = λ promise has. promised_given ticket promise line bytes at n.waits l.waits step.0 (told.keeps promise has) }

-- a read is awaited, and so many turns were made for it
pub record AwaitsTurns (ticket : Ticket) (turns : ℕ) (asked : List Event) (told : List Reply) (old new : Machine) : Type 0 where
  pub awaits : AwaitsRead ticket asked told old new
  pub takes : TakesReadTurns ticket turns asked told

-- and then this was there for its ticket
pub record Looks (ticket : Ticket) (turns : ℕ) (answer : Collected) (asked : List Event) (told : List Reply) (old new : Machine) : Type 0 where
  pub awaits : AwaitsRead ticket asked told old new
  pub before : List Event
  pub given : List Reply
  pub takes : TakesReadTurns ticket turns before given
  pub asked_is : asked ≡ before ++ events.Collect ticket ∷ []
  pub told_is : told ≡ given ++ replies.Collect answer ∷ []

-- nothing but bytes is nothing
pub nothing_of : (answer : Collected) → ((line : ℕ) (bytes : List ℕ) (at : ℕ) → answer ≡ Data line bytes at → ⊥) → IsNothing answer
nothing_of (Data line bytes at) none = none line bytes at refl
nothing_of Pending none = tt
nothing_of Unknown none = tt

pub none_of : {X : Type 0} (it : Option X) → ((x : X) → it ≡ Some x → ⊥) → it ≡ None
none_of None none = refl
none_of (Some x) none = absurd (none x refl)

-- one more behind the last of a list
one_more : {X : Type 0} (all before : List X) (last next : X) → all ≡ before ++ last ∷ [] → all ++ next ∷ [] ≡ before ++ last ∷ next ∷ []
one_more all before last next is = ap (λ xs. xs ++ next ∷ []) is ∙ append_assoc before (last ∷ []) (next ∷ [])

module _ {K : Type 0} (L : Ghosts K) where
  pub awaits_itself : (ticket : Ticket) (it : Module K L) → ComesAlone L (AwaitsTurns ticket 0) it it
  awaits_itself ticket it device gauge =
      comes_to_itself L (AwaitsTurns ticket 0) (assembly it device gauge) (λ m. record { awaits = record { same = refl; keeps = λ bytes promised. promised }; takes = (refl, refl) })

  pub looks : (ticket : Ticket) (turns : ℕ) (answer : Collected) (old mid new : Module K L) → setup_of L mid ≡ setup_of L old
      → ComesAlone L (AwaitsTurns ticket turns) old mid → AnswersAlone L (events.Collect ticket) (replies.Collect answer) mid new → ComesAlone L (Looks ticket turns answer) old new
  looks ticket turns answer old mid new same before next device gauge =
      comes_further L (AwaitsTurns ticket turns) (Looks ticket turns answer) (events.Collect ticket) (replies.Collect answer) (assembly old device gauge) (assembly mid device gauge) (assembly new device gauge) same
      (before device gauge) (next device gauge)
      (λ es rs m n l stands told happens.
      record {
        awaits = awaits_collected ticket ticket answer es (es ++ events.Collect ticket ∷ []) rs (rs ++ replies.Collect answer ∷ []) m n l told.awaits happens.step.1;
        before = es;
        given = rs;
        takes = told.takes;
        asked_is = refl;
        told_is = refl;
      })

  pub takes_turn : (ticket : Ticket) (turns : ℕ) (answer : Collected) (done : Done) (old mid new : Module K L) → setup_of L mid ≡ setup_of L old → IsNothing answer
      → ComesAlone L (Looks ticket turns answer) old mid → AnswersAlone L (events.Work ticket.channel) (replies.Work (Some done)) mid new → ComesAlone L (AwaitsTurns ticket (suc turns)) old new
  takes_turn ticket turns answer done old mid new same nothing before next device gauge =
      comes_further L (Looks ticket turns answer) (AwaitsTurns ticket (suc turns)) (events.Work ticket.channel) (replies.Work (Some done)) (assembly old device gauge) (assembly mid device gauge) (assembly new device gauge) same
      (before device gauge) (next device gauge)
      (λ es rs m n l stands told happens.
      record {
        awaits = awaits_worked ticket (setup_of L old) ticket.channel (Some done) es (es ++ events.Work ticket.channel ∷ []) rs (rs ++ replies.Work (Some done) ∷ []) m n l told.awaits happens.step.1;
        takes = (
          told.before,
          told.given,
          told.takes,
          record {
            answer = answer;
            nothing = nothing;
            done = done;
            asked_is = one_more es told.before (events.Collect ticket) (events.Work ticket.channel) told.asked_is;
            told_is = one_more rs told.given (replies.Collect answer) (replies.Work (Some done)) told.told_is;
          },
        );
      })

  pub sees_content : (ticket : Ticket) (turns line : ℕ) (bytes : List ℕ) (at : ℕ) (old mid new : Module K L) → setup_of L mid ≡ setup_of L old → turns ≤ 64
      → ComesAlone L (AwaitsTurns ticket turns) old mid → AnswersAlone L (events.Collect ticket) (replies.Collect (Data line bytes at)) mid new
      → ComesAlone L (AwaitsLine ticket (Content bytes)) old new
  sees_content ticket turns line bytes at old mid new same most before next device gauge =
      comes_further L (AwaitsTurns ticket turns) (AwaitsLine ticket (Content bytes)) (events.Collect ticket) (replies.Collect (Data line bytes at)) (assembly old device gauge) (assembly mid device gauge) (assembly new device gauge) same
      (before device gauge) (next device gauge)
      (λ es rs m n l stands told happens.
      record {
        sees = sees_given ticket line bytes at es (es ++ events.Collect ticket ∷ []) rs (rs ++ replies.Collect (Data line bytes at) ∷ []) m n l told.awaits happens.step.1;
        are = record {
          turns = turns;
          most = most;
          before = es;
          given = rs;
          takes = told.takes;
          last = events.Collect ticket ∷ [];
          answered = replies.Collect (Data line bytes at) ∷ [];
          ends = (line, at, refl, refl);
          asked_is = refl;
          told_is = refl;
        };
      })

  -- it waits, since its channel had no command
  pub sees_idle : (ticket : Ticket) (turns : ℕ) (answer : Collected) (old mid new : Module K L) → setup_of L mid ≡ setup_of L old → turns < 64 → IsNothing answer
      → ComesAlone L (Looks ticket turns answer) old mid → AnswersAlone L (events.Work ticket.channel) (replies.Work None) mid new → ComesAlone L (AwaitsLine ticket Waiting) old new
  sees_idle ticket turns answer old mid new same most nothing before next device gauge =
      comes_further L (Looks ticket turns answer) (AwaitsLine ticket Waiting) (events.Work ticket.channel) (replies.Work None) (assembly old device gauge) (assembly mid device gauge) (assembly new device gauge) same
      (before device gauge) (next device gauge)
      (λ es rs m n l stands told happens.
      let worked = awaits_worked ticket (setup_of L old) ticket.channel None es (es ++ events.Work ticket.channel ∷ []) rs (rs ++ replies.Work None ∷ []) m n l told.awaits happens.step.1 in
      record {
        sees = record { same = worked.same; promised = λ bytes promised. tt };
        are = record {
          turns = turns;
          most = omega (arith, most);
          before = told.before;
          given = told.given;
          takes = told.takes;
          last = events.Collect ticket ∷ events.Work ticket.channel ∷ [];
          answered = replies.Collect answer ∷ replies.Work None ∷ [];
          ends = (answer, nothing, inl (most, refl, refl));
          asked_is = one_more es told.before (events.Collect ticket) (events.Work ticket.channel) told.asked_is;
          told_is = one_more rs told.given (replies.Collect answer) (replies.Work None) told.told_is;
        };
      })

  -- it waits behind all its turns
  pub sees_waiting : (ticket : Ticket) (answer : Collected) (old new : Module K L) → IsNothing answer → ComesAlone L (Looks ticket 64 answer) old new → ComesAlone L (AwaitsLine ticket Waiting) old new
  sees_waiting ticket answer old new nothing before device gauge =
      comes_retold L (Looks ticket 64 answer) (AwaitsLine ticket Waiting) (assembly old device gauge) (assembly new device gauge) (before device gauge)
      (λ es rs m n told.
      record {
        sees = record { same = told.awaits.same; promised = λ bytes promised. tt };
        are = record {
          turns = 64;
          most = omega arith;
          before = told.before;
          given = told.given;
          takes = told.takes;
          last = events.Collect ticket ∷ [];
          answered = replies.Collect answer ∷ [];
          ends = (answer, nothing, inr (refl, refl, refl));
          asked_is = told.asked_is;
          told_is = told.told_is;
        };
      })
