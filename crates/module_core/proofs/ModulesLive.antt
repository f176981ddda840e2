-- What a module promises of the events that it answers is a life.
use Rattle.module_core.specs.ModuleLives.{LivesEndAfterEvents, LivesEndAnywhere, LivesEndWithinEvent}
use Rattle.module_core.specs.Opening.{opened_with}
use Rattle.slot_store.specs.declared.head.Head.{Head}
use Rattle.energy_budget.proofs.Charging.{rises_none}
use Rattle.energy_budget.specs.Charging.{RisesTo}
use Rattle.nv_machine.proofs.JoinedRuns.{any_run}
use Rattle.nv_machine.proofs.StoppedRuns.{stopped_among}
use Rattle.nv_machine.specs.Headline.{Happens}
use Rattle.nv_machine.specs.Lives.{Unanswered}
use Rattle.nv_machine.specs.StoppedRuns.{StopsAmong}
use Rattle.slot_store.proofs.Resting.{found_only}
use Rattle.slot_store.specs.Outcomes.{Found}
use Rattle.module_core.proofs.Common.{◌≡◌, DeviceState, Ghosts, Image, Module, ModuleStands, Setup, StopsWithin, World, arith, lines_of_module, point_of, present, refl, restored, setup_of, subst, world_of}
use Rattle.module_core.proofs.RunsOn.{run_worlds}
use Rattle.module_saves.proofs.StoreSteps.{stop_now}

module _ {K : Type 0} (L : Ghosts K) where
  -- a module that stands for a new life has its image on the device
  pub opened_on : (found : Head) (image : Image) (it : Module K L) (device : DeviceState) → ModuleStands L it device (opened_with found image)
      → StopsWithin (λ bytes. restored (lines_of_module L it) bytes ≡ Found found.newest.slot image) (present device)
  opened_on found image it device stands bytes left =
      found_only found.newest.slot image (restored (lines_of_module L it) bytes) (stop_now (lines_of_module L it) (opened_with found image).store it.front.saves.saving device stands.holds bytes left)

  pub lives_after : LivesEndAfterEvents L
  lives_after found image events replies old new answered bytes left =
      let first = opened_with found image in let r = answered.runs in record {
        last = r.last;
        stands = r.stands;
        run = run_worlds L (setup_of L old.it) events replies (point_of L old first) (point_of L new r.last) r.run;
        lived = record {
          begins = refl;
          opened = opened_on found image old.it old.device answered.begins;
          run = any_run (setup_of L old.it) events replies (world_of L old first) (world_of L new r.last) (run_worlds L (setup_of L old.it) events replies (point_of L old first) (point_of L new r.last) r.run);
          unanswered = λ unanswered is. absurd (let bad : ⊥ = cc in bad);
          left = record { moment = present new.device; among = (0, omega arith, refl); left = left };
        };
      }

  pub lives_within : LivesEndWithinEvent L
  lives_within found image events replies old new answered event reply later answers bytes left =
      let first = opened_with found image in let r = answered.runs in let next = answers r.last r.stands in
      let unanswered : Unanswered = record { event = event; reply = reply; next = world_of L later next.0 } in
      let happens : Happens (setup_of L old.it) event reply (world_of L new r.last) unanswered.next = subst (λ (s : Setup). Happens s event reply (world_of L new r.last) unanswered.next) answered.setup next.2.happens in record {
        last = r.last;
        next = next.0;
        stands = r.stands;
        run = run_worlds L (setup_of L old.it) events replies (point_of L old first) (point_of L new r.last) r.run;
        lived = record {
          begins = refl;
          opened = opened_on found image old.it old.device answered.begins;
          run = any_run (setup_of L old.it) events replies (world_of L old first) (world_of L new r.last) (run_worlds L (setup_of L old.it) events replies (point_of L old first) (point_of L new r.last) r.run);
          unanswered = λ it is. let these : unanswered ≡ it = cc in subst (λ (x : Unanswered). Happens (setup_of L old.it) x.event x.reply (world_of L new r.last) x.next) these happens;
          left = left;
        };
      }

  pub lives_anywhere : LivesEndAnywhere L
  lives_anywhere found image events replies old new answered bytes left =
      let first = opened_with found image in let r = answered.runs in let begins : World = world_of L old first in
      let p : StopsAmong RisesTo (setup_of L old.it) events replies begins (world_of L new r.last) bytes =
      stopped_among RisesTo rises_none (setup_of L old.it) events replies begins (world_of L new r.last) (run_worlds L (setup_of L old.it) events replies (point_of L old first) (point_of L new r.last) r.run) bytes left in
      record {
        front = p.front;
        told = p.told;
        last = p.last;
        unanswered = p.unanswered;
        rest = p.rest;
        untold = p.untold;
        parts = p.parts;
        told_are = p.told_are;
        now = r.last;
        stands = r.stands;
        run = p.run;
        goes_on = p.goes_on;
        lived = record { begins = refl; opened = opened_on found image old.it old.device answered.begins; run = any_run (setup_of L old.it) p.front p.told begins p.last p.run; unanswered = p.happens; left = p.left };
      }
