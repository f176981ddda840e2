-- A run goes on by the next event and a cut behind it.
use Rattle.std.proofs.Common.{get_or}
use Rattle.std.proofs.lemmas.List.{take_more}
use Rattle.module_core.specs.Cutting.{AnswersCut, HappensCutAt, RunsCut}
use Rattle.module_core.specs.Stands.{Answers, IsCut, Point, RestsAt, RunAt, RunsTo}
use Rattle.nv_machine.proofs.JoinedRuns.{join_runs_of, no_pause}
use Rattle.save_device.specs.Device.{StopsWithin, present}
use Rattle.slot_store.specs.Outcomes.{restored}
use Rattle.nv_machine.specs.Headline.{RecoversAfterwards, RunOf, pause_at}
use Rattle.nv_machine.specs.State.{newest_of}
use Rattle.module_core.proofs.Common.{[], ℕ, ◌++◌, ◌+◌, ◌<◌, ◌∙◌, ◌∷◌, ◌≡◌, AnswersAll, Assembly, DeviceState, Event, Gauge, Ghosts, HappensAt, List, Machine, Module, Reply, Setup, ap, assembly, length, point_of, setup_of, subst, sym, take}
use Rattle.module_core.proofs.RunsOn.{cut_answered, happens_later, rests_twice}

module _ {K : Type 0} (L : Ghosts K) where
  -- what a cut run is without its cuts
  uncut_run : (setup : Setup) (events : List Event) (replies : List Reply) (old new : Point L) → RunOf RestsAt (HappensCutAt L setup) events replies old new → RunAt L setup events replies old new
  uncut_run setup [] [] old new run = run
  uncut_run setup (event ∷ events) (reply ∷ replies) old new run = (run.0, run.1.next, uncut_run setup events replies run.0 new run.2)
  uncut_run setup events replies old new none = absurd none

  pub answers_uncut : (events : List Event) (replies : List Reply) (old new : Assembly L) → AnswersCut L events replies old new → AnswersAll L events replies old new
  answers_uncut events replies old new answers m stands =
      let r = answers m stands in
      record { last = r.last; stands = r.stands; run = uncut_run (setup_of L old.it) events replies (point_of L old m) (point_of L new r.last) r.run; left = r.left }

  cut_later : (setup : Setup) (event : Event) (reply : Reply) (old mid new : Point L) → RestsAt old mid → HappensCutAt L setup event reply mid new → HappensCutAt L setup event reply old new
  unfolding happens_later
  cut_later setup event reply old mid new rests cut = record {
    next = happens_later L setup event reply old mid new rests cut.next;
    cut = cut.cut ∙ ap (λ (p : Point L). (newest_of p.world.machine).count) rests.is;
  }

  -- no event, and a cut
  pub first_cut : (old new : Module K L) (device : DeviceState) (gauge : Gauge) → IsCut L old new → AnswersCut L [] [] (assembly old device gauge) (assembly new device gauge)
  first_cut old new device gauge cut m stands =
      let r : RunsTo L [] [] (assembly old device gauge) m (assembly new device gauge) = cut_answered L old new device gauge cut m stands in
      record { last = r.last; stands = r.stands; run = r.run; left = r.left }

  -- one event more, and a cut
  pub one_more_cut : (events : List Event) (i : ℕ) (none : Event) (replies : List Reply) (reply : Reply) (old mid applied : Assembly L) (new : Assembly L)
      → i < length events → setup_of L mid.it ≡ setup_of L old.it → mid.it.front.terms.cut ≡ mid.it.front.saved → setup_of L applied.it ≡ setup_of L old.it
      → AnswersCut L (take i events) replies old mid → Answers L (get_or events i none) reply mid applied
      → new ≡ assembly new.it applied.device applied.gauge → IsCut L applied.it new.it → AnswersCut L (take (i + 1) events) (replies ++ reply ∷ []) old new
  one_more_cut events i none replies reply old mid applied new inside same whole later so_far next is cut m stands =
      let event : Event = get_or events i none in let setup : Setup = setup_of L old.it in let before : RunsCut L (take i events) replies old m mid = so_far m stands in
      let after = next before.last before.stands in let n : Machine = after.0 in let from : Point L = point_of L mid before.last in
      let happens : HappensAt L setup event reply from (point_of L applied n) = subst (λ (s : Setup). HappensAt L s event reply from (point_of L applied n)) same after.2 in
      let at_end : before.last.cut ≡ (newest_of before.last).count = sym before.stands.matches.front.cut ∙ whole ∙ before.stands.saved in
      let happens_cut : HappensCutAt L setup event reply from (point_of L applied n) =
      record { next = record { pause = pause_at from.world; may = no_pause from.world; happens = happens }; cut = at_end } in
      let last : Assembly L = assembly new.it applied.device applied.gauge in
      let rest : RunsTo L [] [] applied n last = cut_answered L applied.it new.it applied.device applied.gauge cut n after.1 in
      let run = join_runs_of RestsAt (HappensCutAt L setup) (rests_twice L) (cut_later setup) (take i events) replies (event ∷ []) (reply ∷ []) (point_of L old m) from (point_of L last rest.last) before.run
      (point_of L applied n, happens_cut, rest.run) in
      let runs : RunsCut L (take i events ++ event ∷ []) (replies ++ reply ∷ []) old m last = record {
        last = rest.last;
        stands = rest.stands;
        run = run;
        left = subst (λ (s : Setup). StopsWithin (λ bytes. RecoversAfterwards rest.last (restored s.shape.lines bytes)) (present last.device)) later rest.left;
      } in
      subst (λ (a : Assembly L). RunsCut L (take (i + 1) events) (replies ++ reply ∷ []) old m a) (sym is)
      (subst (λ (es : List Event). RunsCut L es (replies ++ reply ∷ []) old m last) (sym (take_more events i none inside)) runs)
