-- What an honest gauge is enough for in the calls of a module.
use Rattle.std.proofs.Common.{All}
use Rattle.std.proofs.lemmas.Bool.{or_from}
use Rattle.std.proofs.lemmas.List.Elements.{All-append, All-cons, All-nil}
use Rattle.save_device.specs.Device.{StopsWithin, faults_of, present}
use Rattle.slot_store.specs.Rest.{only}
use Rattle.slot_store.proofs.Resting.{found_only}
use Rattle.arm_state.specs.declared.loss.Loss.{Loss}
use Rattle.arm_state.specs.declared.loss.Loss.TheVariants as loss
use Rattle.energy_budget.specs.Gauge.{IsHonestThrough}
use Rattle.channel_port.specs.Draining.{DrainOrder}
use Rattle.nv_machine.specs.declared.events.Event.TheVariants as event
use Rattle.nv_machine.specs.declared.events.Reply.TheVariants as reply
use Rattle.nv_machine.specs.Losses.{LoseStep, SavesAll}
use Rattle.nv_machine.specs.Machine.{MachineStep}
use Rattle.nv_machine.specs.Guard.{is_broken_off, would_lose_acknowledged}
use Rattle.nv_machine.specs.Headline.{IsBacked, IsHonest, RecoversAfterwards, Run, SavesAllWritten}
use Rattle.nv_machine.specs.Honesty.{ArmsNone, IsHonestAlong, SavesAllAlong}
use Rattle.nv_machine.proofs.Backing.{not_backed}
use Rattle.nv_machine.proofs.CountedFaults.{Counts, event_counts, honest_ends, run_counts}
use Rattle.nv_machine.proofs.HonestRuns.{backed_along, saved_along, unbroken_along}
use Rattle.nv_machine.proofs.SparedDevices.{spared_ends, unarmed_spared}
use Rattle.slot_store.specs.declared.head.Head.{Head}
use Rattle.module_core.specs.HonestCalls.{HoldsAll, IsHonestSince, IsWholeLoss, SavesWhereHonest, StaysHonest, StaysWhereHonest, WasSpared}
use Rattle.module_core.specs.InTurn.{AnswersCall, AnswersCalls}
use Rattle.module_core.specs.ModuleLives.{HasAnswered, LifeSoFar}
use Rattle.module_core.specs.Opening.{opened_with}
use Rattle.module_core.specs.Stands.{EndsMains, world_of}
use Rattle.module_core.proofs.Common.{[], ℕ, ◌++◌, ◌+◌, ◌∙◌, ◌∷◌, ◌≡◌, ◌≤◌, Assembly, ChannelsView, Event, Ghosts, Image, IsAmong, List, Machine, Module, ModuleStands, Outcome, Reply, Setup, Store, World, ap, arith, false, is_backed, made_of, other, point_of, refl, restored, setup_of, subst, sym}
use Rattle.module_core.proofs.Applying.{same_setup}
use Rattle.module_core.proofs.RunsOn.{run_worlds}

lose_of : (setup : Setup) (event : Event) (lost : Loss) (old new : World) → MachineStep setup event (reply.Lose lost) old new → (order : DrainOrder) × LoseStep order setup lost old new
lose_of setup event.Lose lost old new done = done
lose_of setup event lost old new none = absurd none

whole_loss : (setup : Setup) (event : Event) (reply : Reply) (old new : World) → MachineStep setup event reply old new → SavesAllWritten old.machine reply → IsWholeLoss reply
whole_loss setup event (reply.Lose loss.Dark) old new done saves =
    let all = saves (lose_of setup event loss.Dark old new done).1.closes.backed in let bad : ⊥ = cc in bad
whole_loss setup event (reply.Lose loss.Fault) old new done saves =
    let all = saves (lose_of setup event loss.Fault old new done).1.closes.backed in let bad : ⊥ = cc in bad
whole_loss setup event reply old new done saves = tt

whole_along : (setup : Setup) (events : List Event) (replies : List Reply) (old new : World) (run : Run setup events replies old new) → SavesAllAlong setup events replies old new run
    → All IsWholeLoss replies
whole_along setup [] [] old new run saves = All-nil IsWholeLoss
whole_along setup (event ∷ events) (reply ∷ replies) old new run saves =
    All-cons IsWholeLoss reply replies (whole_loss setup event reply _ run.0 run.1.happens.step saves.0) (whole_along setup events replies run.0 new run.2 saves.1)
whole_along setup _ _ old new none saves = absurd none

module _ {K : Type 0} (L : Ghosts K) where
  -- the setup stays where mains are lost
  pub ended_setup : (reading : ℕ) (old new : Module K L) → EndsMains L reading old new → setup_of L new ≡ setup_of L old
  ended_setup reading old new ends = same_setup L old.channels new.channels old.front.terms new.front.terms (ap (λ (v : ChannelsView). v.shape) ends.channels.is) ends.numbers.terms

  -- what a life comes to through which the gauge was honest and the device spared
  module _ (found : Head) (image : Image) (events : List Event) (replies : List Reply) (first now : Assembly L) (answered : HasAnswered L found image events replies first now)
      (gauge : IsHonestSince L first now) (spared : WasSpared L found image events replies first now answered) where
    abbrev setup : Setup
    setup = setup_of L first.it

    abbrev begun : World
    begun = world_of L first (opened_with found image)

    abbrev here : World
    here = world_of L now answered.runs.last

    abbrev the_run : Run setup events replies begun here
    the_run = spared.run

    so_far : IsHonestAlong setup events replies begun here the_run
    so_far = honest_ends setup events replies begun here the_run gauge spared.spared

    saves_so_far : SavesAllAlong setup events replies begun here the_run
    saves_so_far = saved_along setup events replies begun here the_run so_far (not_backed setup (opened_with found image) first.gauge refl)

    backed_so_far : IsBacked (setup_of L now.it) answered.runs.last now.gauge
    backed_so_far =
        subst (λ (s : Setup). IsBacked s answered.runs.last now.gauge) (sym answered.setup)
        (backed_along setup events replies begun here the_run so_far (not_backed setup (opened_with found image) first.gauge refl))

    calm_so_far : is_broken_off answered.runs.last.lost ≡ false
    calm_so_far = unbroken_along setup events replies begun here the_run answered.begins.guarded saves_so_far refl

    whole_so_far : All IsWholeLoss replies
    whole_so_far = whole_along setup events replies begun here the_run saves_so_far

  -- the gauge of a life counts no fault until a later moment, so neither until an earlier one
  counts_so_far : (found : Head) (image : Image) (events : List Event) (replies : List Reply) (first now : Assembly L) (answered : HasAnswered L found image events replies first now)
      → Counts (world_of L first (opened_with found image)) (world_of L now answered.runs.last)
  counts_so_far found image events replies first now answered =
      run_counts (setup_of L first.it) events replies (world_of L first (opened_with found image)) (world_of L now answered.runs.last)
      (run_worlds L (setup_of L first.it) events replies (point_of L first (opened_with found image)) (point_of L now answered.runs.last) answered.runs.run)

  stays : (replies : List Reply) (now : Assembly L) (last : Machine) (setup : Setup) → ModuleStands L now.it now.device last → setup_of L now.it ≡ setup → IsBacked setup last now.gauge
      → is_broken_off last.lost ≡ false → All IsWholeLoss replies → StopsWithin (λ bytes. RecoversAfterwards last (restored setup.shape.lines bytes)) (present now.device) → StaysHonest L replies now
  stays replies now last setup stands same backed calm whole left = record {
    backed = record { machine = last; stands = stands; backed = subst (λ (s : Setup). IsBacked s last now.gauge) (sym same) backed };
    losses = whole;
    kept = λ off bytes stop.
        let here = (left bytes stop).recovers in
        let unbacked : is_backed last.mode ≡ false = ap is_backed (sym stands.matches.front.mode) ∙ off in
        let settled : would_lose_acknowledged last ≡ false = or_from (is_backed last.mode) (is_broken_off last.lost) unbacked calm in
        record {
          slot = here.slot;
          image = here.image;
          found = ap (λ (s : Setup). restored s.shape.lines bytes) same ∙ here.found;
          holds = omega (arith, stands.matches.front.persisted, here.holds_all settled);
        };
  }

  -- a device that has counted no fault was spared
  pub faultless_spared : (found : Head) (image : Image) (events : List Event) (replies : List Reply) (first now : Assembly L) (answered : HasAnswered L found image events replies first now)
      → faults_of now.device ≡ faults_of first.device → WasSpared L found image events replies first now answered
  faultless_spared found image events replies first now answered same =
      let begun : World = world_of L first (opened_with found image) in let here : World = world_of L now answered.runs.last in
      let run : Run (setup_of L first.it) events replies begun here =
      run_worlds L (setup_of L first.it) events replies (point_of L first (opened_with found image)) (point_of L now answered.runs.last) answered.runs.run in
      record { run = run; spared = spared_ends (setup_of L first.it) events replies begun here run refl same }

  -- and so was each one before the module was armed
  pub unarmed_module : (found : Head) (image : Image) (events : List Event) (replies : List Reply) (first now : Assembly L) (answered : HasAnswered L found image events replies first now)
      → All ArmsNone replies → WasSpared L found image events replies first now answered
  unarmed_module found image events replies first now answered unarmed =
      let begun : World = world_of L first (opened_with found image) in let here : World = world_of L now answered.runs.last in
      let run : Run (setup_of L first.it) events replies begun here =
      run_worlds L (setup_of L first.it) events replies (point_of L first (opened_with found image)) (point_of L now answered.runs.last) answered.runs.run in
      record { run = run; spared = unarmed_spared (setup_of L first.it) events replies begun here run refl unarmed }

  pub honest_life : (now : Assembly L) (so : LifeSoFar L now) → IsHonestSince L so.first now → WasSpared L so.found so.image so.events so.replies so.first now so.answered → StaysHonest L so.replies now
  honest_life now so gauge spared =
      let a = so.answered in
      let backed = backed_so_far so.found so.image so.events so.replies so.first now a gauge spared in
      stays so.replies now a.runs.last (setup_of L now.it) a.runs.stands refl backed
      (calm_so_far so.found so.image so.events so.replies so.first now a gauge spared)
      (whole_so_far so.found so.image so.events so.replies so.first now a gauge spared)
      (subst (λ (s : Setup). StopsWithin (λ bytes. RecoversAfterwards a.runs.last (restored s.shape.lines bytes)) (present now.device)) (sym a.setup) a.runs.left)

  pub honest_calls : (events : List Event) (replies : List Reply) (old new : Assembly L) → AnswersCalls L events replies old new → StaysWhereHonest L events replies old new
  honest_calls events replies old new calls found image before told first answered gauge was runs spared =
      let s : Setup = setup_of L old.it in let mid : World = world_of L old answered.runs.last in let last : World = world_of L new runs.last in
      let run : Run s events replies mid last = spared.run in
      let counts = counts_so_far found image before told first old answered in let later : Counts mid last = run_counts s events replies mid last run in
      let same : new.gauge.faults ≡ first.gauge.faults = gauge.faultless in
      let until : IsHonestSince L first old = record { bounded = gauge.bounded; faultless = omega (arith, counts.gauge, later.gauge, same) } in
      let leak : old.gauge.leak ≤ s.shape.costs.numbers.leak =
      subst (λ (x : Setup). old.gauge.leak ≤ x.shape.costs.numbers.leak) (sym answered.setup) (let bounded = gauge.bounded in omega (arith, counts.leak, bounded)) in
      let from : IsHonestThrough s.shape.costs.numbers.leak old.gauge new.gauge = record { bounded = leak; faultless = omega (arith, counts.gauge, later.gauge, same) } in
      let honest : IsHonestAlong s events replies mid last run = honest_ends s events replies mid last run from spared.spared in
      let backed : IsBacked s answered.runs.last old.gauge = backed_so_far found image before told first old answered until was in
      let saves : SavesAllAlong s events replies mid last run = saved_along s events replies mid last run honest backed in
      let calm : is_broken_off answered.runs.last.lost ≡ false = calm_so_far found image before told first old answered until was in
      stays (told ++ replies) new runs.last s runs.stands calls.setup (backed_along s events replies mid last run honest backed)
      (unbroken_along s events replies mid last run answered.runs.stands.guarded saves calm)
      (All-append IsWholeLoss told replies (whole_so_far found image before told first old answered until was) (whole_along s events replies mid last run saves))
      runs.left

  -- what a save of all accepted writes leaves
  finds_all : (order : DrainOrder) (setup : Setup) (generation count accepted : ℕ) (old new : World) → SavesAll order setup generation count old new → accepted ≡ (made_of false old.machine).count
      → (outcome : Outcome) → IsAmong new.machine.store.maybe outcome → HoldsAll accepted outcome
  finds_all order setup generation count accepted old new saves all outcome among =
      let made : Image = made_of false old.machine in let slot = other old.machine.store.maybe.slot in
      let alone : IsAmong (only slot made) outcome = subst (λ (s : Store). IsAmong s.maybe outcome) saves.saved among in
      record { slot = slot; image = made; found = found_only slot made outcome alone; count_is = sym all; complete = refl }

  pub honest_loss : (lost : Loss) (old new : Assembly L) → AnswersCall L event.Lose (reply.Lose lost) old new → SavesWhereHonest L lost old new
  honest_loss lost mid new call found image events replies old answered gauge was few on =
      let r = answered.runs in let s : Setup = setup_of L mid.it in
      let middle : World = world_of L mid r.last in let next = call.answers r.last r.stands in let last : World = world_of L new next.0 in
      let before = counts_so_far found image events replies old mid answered in
      let behind : Counts middle last = event_counts s event.Lose (reply.Lose lost) middle last next.2.happens.step in
      let same : new.gauge.faults ≡ old.gauge.faults = gauge.faultless in
      let until : IsHonestSince L old mid = record { bounded = gauge.bounded; faultless = omega (arith, before.gauge, behind.gauge, same) } in
      let backed : IsBacked s r.last mid.gauge = backed_so_far found image events replies old mid answered until was in
      let leak : mid.gauge.leak ≤ s.shape.costs.numbers.leak =
      subst (λ (x : Setup). mid.gauge.leak ≤ x.shape.costs.numbers.leak) (sym answered.setup) (let bounded = gauge.bounded in omega (arith, before.leak, bounded)) in
      let now : IsHonest s middle (reply.Lose lost) last = record {
        gauge = record { bounded = leak; faultless = omega (arith, before.gauge, behind.gauge, same) };
        spared = few;
      } in
      let stays = next.2.happens.honest now backed in
      let is : lost ≡ loss.Saved (made_of false r.last).generation (made_of false r.last).count = stays.saves (ap is_backed (sym r.stands.matches.front.mode) ∙ on) in
      let order : DrainOrder = next.2.happens.step.0 in
      let step : SavesAll order (setup_of L mid.it) (made_of false r.last).generation (made_of false r.last).count middle last =
      subst (λ (l : Loss). LoseStep order (setup_of L mid.it) l middle last) is next.2.happens.step.1 in
      let generation : (made_of false r.last).generation ≡ mid.it.front.saves.newest.generation + 1 = ap (λ (g : ℕ). g + 1) (sym r.stands.matches.front.knows.generation) in
      record {
        answered = is ∙ ap (λ (g : ℕ). loss.Saved g (made_of false r.last).count) generation ∙ ap (loss.Saved (mid.it.front.saves.newest.generation + 1)) (sym r.stands.matches.front.accepted);
        restores = λ bytes left.
            subst (λ (s : Setup). HoldsAll mid.it.front.accepted (restored s.shape.lines bytes)) (sym call.setup)
            (finds_all order (setup_of L mid.it) (made_of false r.last).generation (made_of false r.last).count mid.it.front.accepted middle last step r.stands.matches.front.accepted
            (restored (setup_of L mid.it).shape.lines bytes) (next.2.happens.at_end bytes left).among);
      }
