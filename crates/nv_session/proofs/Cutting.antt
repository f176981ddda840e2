-- Calls behind which the stored writes are cut.
use Rattle.std.proofs.Common.{◌≡◌, ◌∙◌, ℕ, List, Result, Ok, Err, subst, sym}
use Rattle.nv_session.proofs.Common.{ArmRefusal, Assembly, Comes, ComesTo, Event, Ghosts, GoesOnSaving, IsCutToSaved, Machine, MakesOneStep, MakesSave, Module, ModuleStands, Reply, Setup, StepReply, StopsWithin, Tale, assembly, point_of, present, restored, setup_of}
use Rattle.nv_machine.specs.Headline.{RecoversAfterwards}
use Rattle.module_core.specs.Stands.{IsCut}
use Rattle.module_core.proofs.CallsInTurn.{cut_setup}
use Rattle.module_core.proofs.RunsOn.{cut_rests, cut_stands, run_rests}
use Rattle.nv_machine.specs.declared.events.StepReply.TheVariants as step
use Rattle.nv_session.proofs.Coming.{left_by_life}
use Rattle.nv_session.specs.Turns.{EndsSave}

-- what is told of the events is the same of a machine whose stored writes were cut
abbrev pub ToldOfCut : Tale → Type 0
ToldOfCut Told = (events : List Event) (replies : List Reply) (old new : Machine) (cut : ℕ) → Told events replies old new → Told events replies old (record new { cut = cut })

module _ {K : Type 0} (L : Ghosts K) where
  pub comes_cut : (Told : Tale) (old mid : Assembly L) (new : Module K L) → ToldOfCut Told → setup_of L mid.it ≡ setup_of L old.it → Comes L Told old mid → IsCut L mid.it new
      → Comes L Told old (assembly new mid.device mid.gauge)
  comes_cut Told old mid new told same comes cut m stands =
      let c : ComesTo L Told old m mid = comes m stands in let n : Machine = record c.runs.last { cut = new.front.terms.cut } in let last : Assembly L = assembly new mid.device mid.gauge in
      let stands' : ModuleStands L new mid.device n = cut_stands L mid.it new mid.device c.runs.last cut c.runs.stands in let setup : setup_of L new ≡ setup_of L old.it = cut_setup L mid.it new cut ∙ same in
      record {
        events = c.events;
        replies = c.replies;
        runs = record {
          last = n;
          stands = stands';
          run = run_rests L (setup_of L old.it) c.events c.replies (point_of L old m) (point_of L mid c.runs.last) (point_of L last n) c.runs.run
              (cut_rests L mid.it new mid.device mid.gauge c.runs.last cut c.runs.stands);
          left = subst (λ (s : Setup). StopsWithin (λ bytes. RecoversAfterwards n (restored s.shape.lines bytes)) (present mid.device)) setup (left_by_life L last n stands');
        };
        told = told c.events c.replies m c.runs.last new.front.terms.cut c.told;
      }

  pub now_cut : (mid new : Module K L) → IsCut L mid new → new.front.terms.cut ≡ mid.front.saved → IsCutToSaved L new
  now_cut mid new cut to = to ∙ sym cut.saved

ends_cut : (result : Result StepReply ArmRefusal) (m : Machine) (cut : ℕ) → EndsSave result m → EndsSave result (record m { cut = cut })
ends_cut (Ok (step.Saved generation count)) m cut saved = record {
  idle = saved.idle;
  generation_is = saved.generation_is;
  count_is = saved.count_is;
  memory = saved.memory;
  alone = saved.alone;
  complete = saved.complete;
}
ends_cut (Ok reply) m cut saved = saved
ends_cut (Err refusal) m cut saved = saved

goes_on_cut : (result : Result StepReply ArmRefusal) → ToldOfCut (GoesOnSaving result)
goes_on_cut result events replies old new cut told = record {
  same = record { opened = told.same.opened; writes = told.same.writes };
  last = told.last;
  ends = ends_cut result new cut told.ends;
}

pub one_step_cut : (result : Result StepReply ArmRefusal) → ToldOfCut (MakesOneStep result)
one_step_cut result events replies old new cut told = record { goes_on = goes_on_cut result events replies old new cut told.goes_on; are = told.are }

pub save_cut : (channels : ℕ) (result : Result StepReply ArmRefusal) → ToldOfCut (MakesSave channels result)
save_cut channels result events replies old new cut told = record { goes_on = goes_on_cut result events replies old new cut told.goes_on; are = told.are }
