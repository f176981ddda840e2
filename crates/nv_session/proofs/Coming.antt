-- Events that follow one another.
use Rattle.std.proofs.Common.{◌≡◌, List, [], ◌∷◌, ◌++◌, refl, subst}
use Rattle.nv_session.proofs.Common.{Answers, AnswersAlone, Assembly, Comes, ComesAlone, ComesTo, Event, Ghosts}
use Rattle.nv_session.proofs.Common.{HappensAt, IsOneEvent, Machine, Module, ModuleStands, Reply, RunAt, Setup}
use Rattle.nv_session.proofs.Common.{StopsWithin, Tale, assembly, point_of, present, restored, setup_of, world_of}
use Rattle.nv_machine.specs.Headline.{Happens, RecoversAfterwards}
use Rattle.nv_machine.proofs.Leaving.{left_after}
use Rattle.module_core.proofs.RunsOn.{join_runs, one_run, rests_at, run_push}
use Rattle.module_saves.proofs.StoreSteps.{stop_now}

module _ {K : Type 0} (L : Ghosts K) where
  -- whatever a stop leaves of a life's device is what the machine says
  pub left_by_life : (old : Assembly L) (m : Machine) → ModuleStands L old.it old.device m
      → StopsWithin (λ bytes. RecoversAfterwards m (restored (setup_of L old.it).shape.lines bytes)) (present old.device)
  left_by_life old m stands = λ bytes left.
      let lines = (setup_of L old.it).shape.lines in
      left_after m stands.guarded (restored lines bytes) (stop_now lines m.store old.it.front.saves.saving old.device stands.holds bytes left)

  -- no event
  pub comes_to_itself : (Told : Tale) (it : Assembly L) → ((m : Machine) → Told [] [] m m) → Comes L Told it it
  comes_to_itself Told it told m stands = record {
    events = [];
    replies = [];
    runs = record { last = m; stands = stands; run = rests_at L (point_of L it m); left = left_by_life it m stands };
    told = told m;
  }

  -- one event more, after which something else is told
  pub comes_further : (Told Next : Tale) (event : Event) (reply : Reply) (old mid new : Assembly L)
      → setup_of L mid.it ≡ setup_of L old.it → Comes L Told old mid → Answers L event reply mid new
      → ((events : List Event) (replies : List Reply) (m n l : Machine) → ModuleStands L mid.it mid.device n → Told events replies m n
      → Happens (setup_of L old.it) event reply (world_of L mid n) (world_of L new l) → Next (events ++ event ∷ []) (replies ++ reply ∷ []) m l)
      → Comes L Next old new
  comes_further Told Next event reply old mid new same so_far next tells m stands =
      let before : ComesTo L Told old m mid = so_far m stands in let n : Machine = before.runs.last in let setup : Setup = setup_of L old.it in
      let after = next n before.runs.stands in let l : Machine = after.0 in
      let happens : HappensAt L setup event reply (point_of L mid n) (point_of L new l) = subst (λ (s : Setup). HappensAt L s event reply (point_of L mid n) (point_of L new l)) same after.2 in
      record {
        events = before.events ++ event ∷ [];
        replies = before.replies ++ reply ∷ [];
        runs = record {
          last = l;
          stands = after.1;
          run = run_push L setup before.events before.replies (point_of L old m) (point_of L mid n) event reply (point_of L new l) before.runs.run happens;
          left = happens.happens.at_end;
        };
        told = tells before.events before.replies m n l before.runs.stands before.told happens.happens;
      }

  -- the same events, of which something else is told too
  pub comes_retold : (Told Next : Tale) (old new : Assembly L) → Comes L Told old new
      → ((events : List Event) (replies : List Reply) (m n : Machine) → Told events replies m n → Next events replies m n) → Comes L Next old new
  comes_retold Told Next old new comes tells m stands =
      let c : ComesTo L Told old m new = comes m stands in
      record { events = c.events; replies = c.replies; runs = c.runs; told = tells c.events c.replies m c.runs.last c.told }

  -- events after which others come
  pub comes_on : (Told Next Both : Tale) (old mid new : Assembly L) → setup_of L mid.it ≡ setup_of L old.it → Comes L Told old mid → Comes L Next mid new
      → ((es fs : List Event) (rs ts : List Reply) (m n l : Machine) → Told es rs m n → Next fs ts n l → Both (es ++ fs) (rs ++ ts) m l) → Comes L Both old new
  comes_on Told Next Both old mid new same so_far next tells m stands =
      let a : ComesTo L Told old m mid = so_far m stands in let n : Machine = a.runs.last in
      let b : ComesTo L Next mid n new = next n a.runs.stands in let setup : Setup = setup_of L old.it in
      let then' : RunAt L setup b.events b.replies (point_of L mid n) (point_of L new b.runs.last) =
      subst (λ (s : Setup). RunAt L s b.events b.replies (point_of L mid n) (point_of L new b.runs.last)) same b.runs.run in
      record {
        events = a.events ++ b.events;
        replies = a.replies ++ b.replies;
        runs = record {
          last = b.runs.last;
          stands = b.runs.stands;
          run = join_runs L setup a.events a.replies b.events b.replies (point_of L old m) (point_of L mid n) (point_of L new b.runs.last) a.runs.run then';
          left = subst (λ (s : Setup). StopsWithin (λ bytes. RecoversAfterwards b.runs.last (restored s.shape.lines bytes)) (present new.device)) same b.runs.left;
        };
        told = tells a.events b.events a.replies b.replies m n b.runs.last a.told b.told;
      }

-- nothing has happened
pub record Starts (events : List Event) (replies : List Reply) (old new : Machine) : Type 0 where
  pub unasked : events ≡ []
  pub untold : replies ≡ []
  pub same : new ≡ old

module _ {K : Type 0} (L : Ghosts K) where
  pub starts_at : (it : Assembly L) → Comes L Starts it it
  starts_at it = comes_to_itself L Starts it (λ m. record { unasked = refl; untold = refl; same = refl })

  -- one event comes to that event
  pub one_event : (event : Event) (reply : Reply) (old new : Assembly L) → Answers L event reply old new → Comes L (IsOneEvent event reply) old new
  one_event event reply old new answers m stands =
      let after = answers m stands in let n : Machine = after.0 in
      record {
        events = event ∷ [];
        replies = reply ∷ [];
        runs = record { last = n; stands = after.1; run = one_run L (setup_of L old.it) event reply (point_of L old m) (point_of L new n) after.2; left = after.2.happens.at_end };
        told = (refl, refl);
      }

  pub one_event_alone : (event : Event) (reply : Reply) (old new : Module K L) → AnswersAlone L event reply old new → ComesAlone L (IsOneEvent event reply) old new
  one_event_alone event reply old new answers device gauge = one_event event reply (assembly old device gauge) (assembly new device gauge) (answers device gauge)
