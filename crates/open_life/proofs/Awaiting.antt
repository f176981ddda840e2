-- How a read that waits ends.
use Rattle.std.proofs.Common.{◌≡◌, ℕ, ◌<◌, ◌≤◌, List, [], ◌∷◌, ◌++◌, ◌∙◌, refl, sym, ap, subst, None, inl, inr, append_assoc, arith}
use Rattle.nv_session.proofs.Common.{AnswersAlone, AwaitsRead, CollectStep, ComesAlone, Event, Ghosts}
use Rattle.nv_session.proofs.Common.{IsNothing, Machine, Module, Reply, SameButWaits, assembly, setup_of}
use Rattle.channel_port.specs.declared.answers.Ticket.{Ticket}
use Rattle.channel_port.specs.declared.answers.Collected.{Collected}
use Rattle.channel_port.specs.declared.answers.Collected.TheVariants.{Data}
use Rattle.nv_machine.specs.declared.events.Event.TheVariants as events
use Rattle.nv_machine.specs.declared.events.Reply.TheVariants as replies
use Rattle.nv_session.proofs.Awaiting.{AwaitsTurns, Looks, same_after}
use Rattle.nv_session.proofs.Coming.{comes_further, comes_retold}
use Rattle.nv_session.proofs.Promised.{promised_given}
use Rattle.open_life.specs.declared.turns.LineRead.TheVariants.{Content, Waiting}
use Rattle.open_life.specs.Reads.{AwaitsLine, SeesPromised}

sees_given : (ticket : Ticket) (line : ℕ) (bytes : List ℕ) (at : ℕ) (es fs : List Event) (rs ts : List Reply) (m n l : Machine)
    → AwaitsRead ticket es rs m n → CollectStep ticket (Data line bytes at) n l → SeesPromised ticket (Content bytes) fs ts m l
sees_given ticket line bytes at es fs rs ts m n l told step =
    record { same = same_after m n l told.same step.1; promised = λ promise has. promised_given ticket promise line bytes at n.waits l.waits step.0 (told.keeps promise has) }

-- one more behind the last of a list
one_more : {X : Type 0} (all before : List X) (last next : X) → all ≡ before ++ last ∷ [] → all ++ next ∷ [] ≡ before ++ last ∷ next ∷ []
one_more all before last next is = ap (λ xs. xs ++ next ∷ []) is ∙ append_assoc before (last ∷ []) (next ∷ [])

module _ {K : Type 0} (L : Ghosts K) where
  pub sees_content : (most : ℕ) (ticket : Ticket) (turns line : ℕ) (bytes : List ℕ) (at : ℕ) (old mid new : Module K L) → setup_of L mid ≡ setup_of L old → turns ≤ most
      → ComesAlone L (AwaitsTurns ticket turns) old mid → AnswersAlone L (events.Collect ticket) (replies.Collect (Data line bytes at)) mid new
      → ComesAlone L (AwaitsLine most ticket (Content bytes)) old new
  sees_content most ticket turns line bytes at old mid new same few before next device gauge =
      comes_further L (AwaitsTurns ticket turns) (AwaitsLine most ticket (Content bytes)) (events.Collect ticket) (replies.Collect (Data line bytes at)) (assembly old device gauge) (assembly mid device gauge) (assembly new device gauge) same
      (before device gauge) (next device gauge)
      (λ es rs m n l stands told happens.
      record {
        sees = sees_given ticket line bytes at es (es ++ events.Collect ticket ∷ []) rs (rs ++ replies.Collect (Data line bytes at) ∷ []) m n l told.awaits happens.step.1;
        are = record {
          turns = turns;
          few = few;
          before = es;
          given = rs;
          takes = told.takes;
          last = events.Collect ticket ∷ [];
          answered = replies.Collect (Data line bytes at) ∷ [];
          ends = (line, at, refl, refl);
          asked_is = refl;
          told_is = refl;
        };
      })

  -- it waits, since its channel had no command
  pub sees_idle : (most : ℕ) (ticket : Ticket) (turns : ℕ) (answer : Collected) (old mid new : Module K L) → setup_of L mid ≡ setup_of L old → turns < most → IsNothing answer
      → ComesAlone L (Looks ticket turns answer) old mid → AnswersAlone L (events.Work ticket.channel) (replies.Work None) mid new → ComesAlone L (AwaitsLine most ticket (Waiting ticket)) old new
  sees_idle most ticket turns answer old mid new same few nothing before next device gauge =
      comes_further L (Looks ticket turns answer) (AwaitsLine most ticket (Waiting ticket)) (events.Work ticket.channel) (replies.Work None) (assembly old device gauge) (assembly mid device gauge) (assembly new device gauge) same
      (before device gauge) (next device gauge)
      (λ es rs m n l stands told happens.
      let stays : l ≡ n = happens.step.1 in
      record {
        sees = record { same = subst (λ (x : Machine). SameButWaits m x) (sym stays) told.awaits.same; promised = λ bytes promised. tt };
        are = record {
          turns = turns;
          few = omega (arith, few);
          before = told.before;
          given = told.given;
          takes = told.takes;
          last = events.Collect ticket ∷ events.Work ticket.channel ∷ [];
          answered = replies.Collect answer ∷ replies.Work None ∷ [];
          ends = (refl, answer, nothing, inl (few, refl, refl));
          asked_is = one_more es told.before (events.Collect ticket) (events.Work ticket.channel) told.asked_is;
          told_is = one_more rs told.given (replies.Collect answer) (replies.Work None) told.told_is;
        };
      })

  -- it waits behind all its turns
  pub sees_waiting : (most : ℕ) (ticket : Ticket) (answer : Collected) (old new : Module K L) → IsNothing answer → ComesAlone L (Looks ticket most answer) old new → ComesAlone L (AwaitsLine most ticket (Waiting ticket)) old new
  sees_waiting most ticket answer old new nothing before device gauge =
      comes_retold L (Looks ticket most answer) (AwaitsLine most ticket (Waiting ticket)) (assembly old device gauge) (assembly new device gauge) (before device gauge)
      (λ es rs m n told.
      record {
        sees = record { same = told.awaits.same; promised = λ bytes promised. tt };
        are = record {
          turns = most;
          few = omega arith;
          before = told.before;
          given = told.given;
          takes = told.takes;
          last = events.Collect ticket ∷ [];
          answered = replies.Collect answer ∷ [];
          ends = (refl, answer, nothing, inr (refl, refl, refl));
          asked_is = told.asked_is;
          told_is = told.told_is;
        };
      })
