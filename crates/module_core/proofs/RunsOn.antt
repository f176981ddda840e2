-- A run of a module goes on by the next event, and by a run.
use Rattle.std.proofs.Common.{get_or}
use Rattle.std.proofs.lemmas.List.{take_more}
use Rattle.energy_budget.proofs.Charging.{rises_none}
use Rattle.energy_budget.specs.Charging.{RisesTo}
use Rattle.channel_set.specs.declared.set.ChannelSet.{ChannelSet}
use Rattle.module_core.specs.Stands.{IsCarried, IsCut}
use Rattle.module_core.specs.declared.opening.LifeTerms.{LifeTerms}
use Rattle.nv_machine.proofs.Guarded.{guarded_cut}
use Rattle.module_core.specs.Stands.{Answers, HappensNextAt, Point, RestsAt, RunAt, RunsTo, paused_at}
use Rattle.nv_machine.proofs.Leaving.{left_after}
use Rattle.nv_machine.proofs.JoinedRuns.{charged_only, join_runs_of, no_pause, pause_twice}
use Rattle.nv_machine.specs.Headline.{MayCut, MayPause, Run, pause_at}
use Rattle.module_core.proofs.Common.{[], arith, ℕ, ◌++◌, ◌+◌, ◌<◌, ◌≤◌, ◌∙◌, ◌∷◌, ◌≡◌, AnswersAll, AreSameSave, Assembly, DeviceState, Event, Gauge, Ghosts, HappensAt, Holds, IsMemory, Knows, List, Machine, Matches, Module, ModuleStands, Reply, Saves, Setup, ap, assembly, length, lines_of_module, memory_of, point_of, refl, restored, setup_of, shape_of, subst, sym, take, world_of}
use Rattle.module_saves.proofs.StoreSteps.{stop_now}

module _ {K : Type 0} (L : Ghosts K) where
  -- a run of the module is one of the machine
  pub run_worlds : (setup : Setup) (events : List Event) (replies : List Reply) (old new : Point L) → RunAt L setup events replies old new → Run setup events replies old.world new.world
  run_worlds setup [] [] old new run = record { may = run.may; is = ap (λ (p : Point L). p.world) run.is }
  run_worlds setup (event ∷ events) (reply ∷ replies) old new run =
      (run.0.world, record { pause = run.1.pause; may = run.1.may; happens = run.1.happens.happens }, run_worlds setup events replies run.0 new run.2)
  run_worlds setup events replies old new none = absurd none

  -- a moment, and the same one behind a pause
  pub rests_twice : (a b c : Point L) → RestsAt a b → RestsAt b c → RestsAt a c
  rests_twice a b c first second = record {
    may = pause_twice a.world (pause_at b.world) (pause_at c.world) first.may (subst (λ (p : Point L). MayPause p.world (pause_at c.world)) first.is second.may);
    is = second.is ∙ ap (λ (p : Point L). paused_at (pause_at c.world) p) first.is;
  }

  pub rests_at : (p : Point L) → RestsAt p p
  rests_at p = record { may = no_pause p.world; is = refl }

  -- there was a pause some time before the next event
  unfoldable pub happens_later : (setup : Setup) (event : Event) (reply : Reply) (old mid new : Point L) → RestsAt old mid → HappensNextAt L setup event reply mid new → HappensNextAt L setup event reply old new
  happens_later setup event reply old mid new rests next = record {
    pause = next.pause;
    may = pause_twice old.world (pause_at mid.world) next.pause rests.may (subst (λ (p : Point L). MayPause p.world next.pause) rests.is next.may);
    happens = subst (λ (p : Point L). HappensAt L setup event reply (paused_at next.pause p) new) rests.is next.happens;
  }

  -- a pause behind a run
  pub run_rests : (setup : Setup) (events : List Event) (replies : List Reply) (old mid new : Point L) → RunAt L setup events replies old mid → RestsAt mid new → RunAt L setup events replies old new
  run_rests setup [] [] old mid new run rests = rests_twice old mid new run rests
  run_rests setup (event ∷ events) (reply ∷ replies) old mid new run rests = (run.0, run.1, run_rests setup events replies run.0 mid new run.2 rests)
  run_rests setup [] (reply ∷ replies) old mid new none rests = absurd none
  run_rests setup (event ∷ events) [] old mid new none rests = absurd none

  -- one event alone
  pub one_run : (setup : Setup) (event : Event) (reply : Reply) (old new : Point L) → HappensAt L setup event reply old new → RunAt L setup (event ∷ []) (reply ∷ []) old new
  one_run setup event reply old new happens = (new, record { pause = pause_at old.world; may = no_pause old.world; happens = happens }, rests_at new)

  -- a run, and one that goes on from its end
  pub join_runs : (setup : Setup) (events : List Event) (replies : List Reply) (more : List Event) (others : List Reply) (old mid new : Point L)
      → RunAt L setup events replies old mid → RunAt L setup more others mid new → RunAt L setup (events ++ more) (replies ++ others) old new
  join_runs setup = join_runs_of RestsAt (HappensNextAt L setup) rests_twice (happens_later setup)

  pub run_push : (setup : Setup) (events : List Event) (replies : List Reply) (old mid : Point L) (event : Event) (reply : Reply) (new : Point L)
      → RunAt L setup events replies old mid → HappensAt L setup event reply mid new → RunAt L setup (events ++ event ∷ []) (replies ++ reply ∷ []) old new
  run_push setup events replies old mid event reply new run happens =
      join_runs setup events replies (event ∷ []) (reply ∷ []) old mid new run (one_run setup event reply mid new happens)

  -- no event, while the gauge may be charged
  pub none_answered : (it : Module K L) (device : DeviceState) (gauge charged : Gauge) → RisesTo gauge charged → AnswersAll L [] [] (assembly it device gauge) (assembly it device charged)
  none_answered it device gauge charged rises m stands = record {
    last = m;
    stands = stands;
    run = record { may = charged_only (world_of L (assembly it device gauge) m) charged rises; is = refl };
    left = λ bytes left.
        left_after m stands.guarded (restored (lines_of_module L it) bytes) (stop_now (lines_of_module L it) m.store it.front.saves.saving device stands.holds bytes left);
  }

  -- a cut moves no more than the cut of the machine
  cut_matches : (old new : Module K L) (m : Machine) → IsCut L old new → Matches L old m → Matches L new (record m { cut = new.front.terms.cut })
  cut_matches old new m cut h = record {
    front = record {
      mode = cut.mode ∙ h.front.mode;
      reading = cut.reading ∙ h.front.reading;
      start = ap (λ (t : LifeTerms). t.start) cut.terms ∙ h.front.start;
      cut = refl;
      accepted = cut.accepted ∙ h.front.accepted;
      persisted = cut.persisted ∙ h.front.persisted;
      knows = subst (λ (s : Saves). Knows s.newest s.closed s.unsettled m.store) (sym cut.saves) h.front.knows;
      saving = subst (λ (s : Saves). AreSameSave m.store.saving s.saving) (sym cut.saves) h.front.saving;
    };
    memory = subst (λ (c : ChannelSet K L). IsMemory (shape_of L c).lines (memory_of m)) (sym cut.channels) h.memory;
    carried = subst (λ (c : ChannelSet K L). IsCarried L c (record m { cut = new.front.terms.cut })) (sym cut.channels)
        (record { carries = h.carried.carries; waits = h.carried.waits; hold = h.carried.hold; held = h.carried.held });
  }

  may_cut : (old new : Module K L) (device : DeviceState) (m : Machine) → IsCut L old new → ModuleStands L old device m → MayCut m new.front.terms.cut
  may_cut old new device m cut s = record {
    rises = omega (arith, s.matches.front.cut, cut.rises);
    most = λ less. let most : new.front.terms.cut ≤ old.front.saved = cut.most (omega (arith, s.matches.front.cut, less)) in omega (arith, most, s.saved);
  }

  pub cut_stands : (old new : Module K L) (device : DeviceState) (m : Machine) → IsCut L old new → ModuleStands L old device m → ModuleStands L new device (record m { cut = new.front.terms.cut })
  cut_stands old new device m cut s = record {
    matches = cut_matches old new m cut s.matches;
    holds = subst (λ (c : ChannelSet K L). Holds (shape_of L c).lines m.store new.front.saves.saving device) (sym cut.channels)
        (subst (λ (x : Saves). Holds (lines_of_module L old) m.store x.saving device) (sym cut.saves) s.holds);
    guarded = guarded_cut m new.front.terms.cut (may_cut old new device m cut s) s.guarded;
    saved = cut.saved ∙ s.saved;
  }

  pub cut_rests : (old new : Module K L) (device : DeviceState) (gauge : Gauge) (m : Machine) → IsCut L old new → ModuleStands L old device m
      → RestsAt (point_of L (assembly old device gauge) m) (point_of L (assembly new device gauge) (record m { cut = new.front.terms.cut }))
  cut_rests old new device gauge m cut stands = record {
    may = record { gauge = rises_none gauge; cut = may_cut old new device m cut stands };
    is = ap (λ (c : ChannelSet K L). record { channels = c; world = record { machine = record m { cut = new.front.terms.cut }; device = device; gauge = gauge } }) cut.channels;
  }

  -- no event, while the stored writes are cut
  pub cut_answered : (old new : Module K L) (device : DeviceState) (gauge : Gauge) → IsCut L old new → AnswersAll L [] [] (assembly old device gauge) (assembly new device gauge)
  cut_answered old new device gauge cut m stands =
      let n : Machine = record m { cut = new.front.terms.cut } in let after = cut_stands old new device m cut stands in record {
        last = n;
        stands = after;
        run = cut_rests old new device gauge m cut stands;
        left = λ bytes left.
            left_after n after.guarded (restored (lines_of_module L old) bytes) (stop_now (lines_of_module L old) m.store old.front.saves.saving device stands.holds bytes left);
      }

  -- one event more
  pub one_more : (events : List Event) (i : ℕ) (none : Event) (replies : List Reply) (reply : Reply) (old mid new : Assembly L)
      → i < length events → setup_of L mid.it ≡ setup_of L old.it → AnswersAll L (take i events) replies old mid → Answers L (get_or events i none) reply mid new
      → AnswersAll L (take (i + 1) events) (replies ++ reply ∷ []) old new
  one_more events i none replies reply old mid new inside same so_far next m stands =
      let before : RunsTo L (take i events) replies old m mid = so_far m stands in let setup : Setup = setup_of L old.it in
      let after = next before.last before.stands in let n : Machine = after.0 in
      let happens : HappensAt L setup (get_or events i none) reply (point_of L mid before.last) (point_of L new n) =
      subst (λ (s : Setup). HappensAt L s (get_or events i none) reply (point_of L mid before.last) (point_of L new n)) same after.2 in
      let run = run_push setup (take i events) replies (point_of L old m) (point_of L mid before.last) (get_or events i none) reply (point_of L new n) before.run happens in
      record {
        last = n;
        stands = after.1;
        run = subst (λ (es : List Event). RunAt L setup es (replies ++ reply ∷ []) (point_of L old m) (point_of L new n)) (sym (take_more events i none inside)) run;
        left = happens.happens.at_end;
      }
