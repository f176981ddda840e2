-- The lives of a script are a chain of the headline.
use Rattle.std.proofs.Common.{◌≡◌, ◌∙◌, ℕ, List, [], ◌∷◌, ◌++◌, refl, sym, ap, subst, Option, Some, None, Result, Ok, Err}
use Rattle.script_runner.proofs.Common.{Answer, Gauge, Ghosts, GoesOnBy, IfErr, IfOk, LivesOn, MatchOption, Module}
use Rattle.script_runner.proofs.Common.{RunsWith, ScriptLine, SessionAt, Setup, device_state, line_count_in}
use Rattle.script_runner.proofs.Common.{moment_in, session_at, set_to}
use Rattle.ddr4_timing.specs.Limits.{lines_of}
use Rattle.interleave_map.specs.declared.ready.Interleaving.{Interleaving}
use Rattle.save_device.specs.declared.memory.Pick.{Pick}
use Rattle.save_device.specs.Device.{DeviceState, MayLeave, present}
use Rattle.slot_store.specs.declared.head.Head.{Head}
use Rattle.slot_store.specs.declared.restoring.RestoreError.{RestoreError}
use Rattle.slot_store.specs.Formatted.{first_head}
use Rattle.slot_store.specs.Outcomes.{Found, first_image, restored}
use Rattle.energy_budget.specs.Meter.{meter_gauge}
use Rattle.nv_machine.specs.Lives.{AreChained, IsLived, LeadsTo, Lived}
use Rattle.nv_machine.proofs.SurvivedLives.{survived_behind}
use Rattle.module_core.specs.ModuleLives.{EndsAfterEvents, EndsAmongEvents, module_life}
use Rattle.module_core.specs.Stands.{Assembly, assembly, setup_of, world_of}
use Rattle.module_core.proofs.CallsInTurn.{answered_none}
use Rattle.module_core.proofs.ModulesLive.{lives_after, lives_anywhere}
use Rattle.nv_profile.specs.declared.profile.Profile.{Profile}
use Rattle.nv_session.specs.declared.session.Session.{Session}
use Rattle.nv_session.specs.declared.wires.Wires as wires
use Rattle.nv_session.specs.Restoring.{Revives}
use Rattle.nv_session.specs.SessionLives.{HasLived, HasLivedOn}
use Rattle.nv_session.specs.Sessions.{restored_in, setup_over}
use Rattle.nv_session.proofs.SessionLives.{lives_charged, lives_on}
use Rattle.nv_script.specs.declared.answer.Answer.TheVariants as answer
use Rattle.nv_script.specs.declared.line.ScriptLine.TheVariants as line
use Rattle.script_runner.specs.Chains.{Chain, ContinuesBy, EndsLife, FormatsLives, GoesFurther, IsChained, LivesAll, LivesEach, LivesInChain, MakesOfLives}
use Rattle.script_runner.specs.Chains.{RestoresLives, RunningLife, RunsBehind, RunsBy, ended_in, running_in}
use Rattle.script_runner.specs.Doing.{AreEventsOf, Does, DoesAll, DoesEach, Formats, KeepsTerms, Restores}
use Rattle.script_runner.specs.Replies.{restore_told}
use Rattle.script_runner.specs.Story.{Exchange}

-- P of the last of a list, if it has one
abbrev ForLast : {X : Type 0} → (X → Type 0) → List X → Type 0
ForLast P [] = Unit {0}
ForLast P (x ∷ []) = P x
ForLast P (x ∷ y ∷ xs) = ForLast P (y ∷ xs)

last_pushed : {X : Type 0} (P : X → Type 0) (xs : List X) (x : X) → P x → ForLast P (xs ++ x ∷ [])
last_pushed P [] x here = here
last_pushed P (y ∷ []) x here = here
last_pushed P (y ∷ z ∷ xs) x here = last_pushed P (z ∷ xs) x here

last_so : {X : Type 0} (P Q : X → Type 0) → ((x : X) → P x → Q x) → (xs : List X) → ForLast P xs → ForLast Q xs
last_so P Q so [] last = tt
last_so P Q so (x ∷ []) last = so x last
last_so P Q so (x ∷ y ∷ xs) last = last_so P Q so (y ∷ xs) last

-- a life more behind a chain
chain_pushed : (lives : List Lived) (next : Lived) → AreChained lives → ForLast (λ life. LeadsTo life next) lives → IsLived next → AreChained (lives ++ next ∷ [])
chain_pushed [] next chained leads lived = lived
chain_pushed (life ∷ []) next chained leads lived = (chained, leads, lived)
chain_pushed (life ∷ other ∷ lives) next chained leads lived = (chained.0, chained.1, chain_pushed (other ∷ lives) next chained.2 leads lived)

-- a life left bytes that restore to what these do
abbrev LeftAlike : ℕ → List ℕ → Lived → Type 0
LeftAlike lines bytes life = restored lines bytes ≡ restored life.setup.shape.lines life.bytes

module _ {K : Type 0} (L : Ghosts K) (lines : ℕ) where
  -- no life runs, and whatever a stop leaves restores to what the last life left
  record Rests (ended : List Lived) (at : SessionAt L) : Type 0 where
    none : at.life ≡ None
    leaves : (bytes : List ℕ) → MayLeave (present at.device) bytes → ForLast (LeftAlike lines bytes) ended

  -- the life that runs was begun with what the last one left
  record Runs (ended : List Lived) (life : RunningLife L) (at : SessionAt L) : Type 0 where
    lived : HasLived L life.found life.image life.events life.replies life.first at
    follows : ForLast (λ last. restored last.setup.shape.lines last.bytes ≡ Found life.found.newest.slot life.image) ended

  abbrev IsKept : List Lived → Option (RunningLife L) → SessionAt L → Type 0
  IsKept ended running at = MatchOption running (Rests ended at) (λ life. Runs ended life at)

  record KeepsChain (chain : Chain L) (at : SessionAt L) : Type 0 where
    ended : AreChained chain.ended
    now : IsKept chain.ended chain.running at

  abbrev Keeps : Option (Chain L) → SessionAt L → Type 0
  Keeps lives at = MatchOption lives (Unit {0}) (λ chain. KeepsChain chain at)

  -- by the events of a line
  goes : (asked : ScriptLine) (given : Answer) (old new : SessionAt L) (ended : List Lived) (running : Option (RunningLife L)) → GoesOnBy L (AreEventsOf asked given) old new
      → IsKept ended running old → (later : Option (RunningLife L)) × RunsBy L (GoesFurther L asked given) running later × IsKept ended later new
  goes asked given old new ended None goes_on kept =
      let same : new ≡ old = subst (λ (life : Option (Module K L)). MatchOption life (new ≡ old) (λ it. LivesOn L (AreEventsOf asked given) it old new)) kept.none goes_on in
      (None, refl, subst (λ (at : SessionAt L). Rests ended at) (sym same) kept)
  goes asked given old new ended (Some life) goes_on kept =
      let on : HasLivedOn L (AreEventsOf asked given (setup_of L kept.lived.it)) life.found life.image life.events life.replies life.first new =
      lives_on L life.found life.image life.events life.replies life.first (AreEventsOf asked given) old new goes_on kept.lived in
      let later : RunningLife L = record life { events = life.events ++ on.more; replies = life.replies ++ on.others } in (
        Some later,
        (
          later,
          record {
            more = on.more;
            others = on.others;
            before = on.before;
            after = on.after;
            told = subst (λ (setup : Setup). AreEventsOf asked given setup on.more on.others on.before on.after) kept.lived.answered.setup on.told;
            is = refl;
          },
          refl,
        ),
        record { lived = on.lived; follows = kept.follows },
      )

  continues : (asked : ScriptLine) (given : Answer) (old new : SessionAt L) (before : Option (Chain L)) → GoesOnBy L (AreEventsOf asked given) old new → Keeps before old
      → (after : Option (Chain L)) × ContinuesBy L (GoesFurther L asked given) before after × Keeps after new
  continues asked given old new None goes_on kept = (None, refl, tt)
  continues asked given old new (Some chain) goes_on kept =
      let all = goes asked given old new chain.ended chain.running goes_on kept.now in
      (Some (record { ended = chain.ended; running = all.0 }), (all.0, all.1, refl), record { ended = kept.ended; now = all.2 })

  -- by none
  abbrev IsSame : RunningLife L → RunningLife L → Type 0
  IsSame = λ old new. new ≡ old

  same_runs : (running : Option (RunningLife L)) → RunsBy L IsSame running running
  same_runs None = refl
  same_runs (Some life) = (life, refl, refl)

  stays : (old new : SessionAt L) → new ≡ old → (before : Option (Chain L)) → Keeps before old → (after : Option (Chain L)) × ContinuesBy L IsSame before after × Keeps after new
  stays old new same None kept = (None, refl, tt)
  stays old new same (Some chain) kept = (
    Some (record { ended = chain.ended; running = chain.running }),
    (chain.running, same_runs chain.running, refl),
    record { ended = kept.ended; now = subst (λ (at : SessionAt L). IsKept chain.ended chain.running at) (sym same) kept.now },
  )

  -- behind a level that is set
  charged_now : (level : ℕ) (at : SessionAt L) (ended : List Lived) (running : Option (RunningLife L)) → IsKept ended running at → IsKept ended running (record at { gauge = set_to level at.gauge })
  charged_now level at ended None kept = record { none = kept.none; leaves = kept.leaves }
  charged_now level at ended (Some life) kept =
      record { lived = lives_charged L life.found life.image life.events life.replies life.first level at kept.lived; follows = kept.follows }

  charged : (level : ℕ) (at : SessionAt L) (before : Option (Chain L)) → Keeps before at → Keeps before (record at { gauge = set_to level at.gauge })
  charged level at None kept = tt
  charged level at (Some chain) kept = record { ended = kept.ended; now = charged_now level at chain.ended chain.running kept.now }

  -- a stop
  ends : (ended : List Lived) (running : Option (RunningLife L)) (at : SessionAt L) → ((it : Module K L) → at.life ≡ Some it → (setup_of L it).shape.lines ≡ lines) → AreChained ended
      → IsKept ended running at → (bytes : List ℕ) → MayLeave (present at.device) bytes → (later : List Lived) × EndsLife L running bytes ended later × AreChained later × ForLast (LeftAlike lines bytes) later
  ends ended None at fits chained kept bytes left = (ended, refl, chained, kept.leaves bytes left)
  ends ended (Some life) at fits chained kept bytes left =
      let now : Assembly L = assembly kept.lived.it at.device at.gauge in
      let e : EndsAfterEvents L life.found life.image life.events life.replies life.first now bytes = lives_after L life.found life.image life.events life.replies life.first now kept.lived.answered bytes left in
      let lived : Lived = module_life L life.found life.image life.events life.replies life.first (world_of L now e.last) None bytes in
      let same : lines ≡ lived.setup.shape.lines = sym (fits kept.lived.it kept.lived.runs) ∙ ap (λ (setup : Setup). setup.shape.lines) kept.lived.answered.setup in (
        ended ++ lived ∷ [],
        (world_of L now e.last, refl),
        chain_pushed ended lived chained kept.follows e.lived,
        last_pushed (LeftAlike lines bytes) ended lived (ap (λ (n : ℕ). restored n bytes) same),
      )

  -- and a stop at any moment of the life that runs
  runs_behind : (ended : List Lived) (life : RunningLife L) (at : SessionAt L) → AreChained ended → Runs ended life at → RunsBehind L ended life at
  runs_behind ended life at chained kept = record {
    lived = kept.lived;
    stops = λ bytes left.
        let now : Assembly L = assembly kept.lived.it at.device at.gauge in
        let e : EndsAmongEvents L life.found life.image life.events life.replies life.first now bytes = lives_anywhere L life.found life.image life.events life.replies life.first now kept.lived.answered bytes left in
        let lived : Lived = module_life L life.found life.image e.front e.told life.first e.last e.unanswered bytes in
        let all : AreChained (ended ++ lived ∷ []) = chain_pushed ended lived chained kept.follows e.lived in
        record { ends = e; chained = all; survived = survived_behind ended lived all };
  }

  now_chained : (ended : List Lived) (running : Option (RunningLife L)) (at : SessionAt L) → AreChained ended → IsKept ended running at
      → MatchOption running (at.life ≡ None) (λ life. RunsBehind L ended life at)
  now_chained ended None at chained kept = kept.none
  now_chained ended (Some life) at chained kept = runs_behind ended life at chained kept

  all_chained : (lives : Option (Chain L)) (at : SessionAt L) → Keeps lives at → MatchOption lives (Unit {0}) (λ chain. IsChained L chain at)
  all_chained None at kept = tt
  all_chained (Some chain) at kept = record { ended = kept.ended; runs = now_chained chain.ended chain.running at kept.ended kept.now }

module _ {K A : Type 0} {L : Ghosts K} {W : wires.Ghosts A K} where
  same_moment : (old new : Session K A L W) → new.life ≡ old.life → device_state new.device ≡ device_state old.device → meter_gauge new.gauge ≡ meter_gauge old.gauge
      → moment_in new ≡ moment_in old
  same_moment old new life device gauge =
      ap (λ (it : Option (Module K L)). session_at it (device_state new.device) (meter_gauge new.gauge)) life
      ∙ ap (λ (state : DeviceState). session_at old.life state (meter_gauge new.gauge)) device
      ∙ ap (λ (shown : Gauge). session_at old.life (device_state old.device) shown) gauge

  formats : (lines : ℕ) (given : Answer) (old new : Session K A L W) → Formats given old new → (after : Option (Chain L)) × FormatsLives given old new after × Keeps L lines after (moment_in new)
  formats lines answer.Formatted old new begins =
      let first : Assembly L = assembly begins.it (device_state new.device) (meter_gauge new.gauge) in
      let life : RunningLife L = record { found = first_head; image = first_image (line_count_in old); first = first; events = []; replies = [] } in (
        Some (record { ended = []; running = Some life }),
        (life, record { it = begins.it; runs = begins.runs; first = refl; unasked = refl; untold = refl }, refl, refl, refl),
        record {
          ended = tt;
          now = record { lived = record { it = begins.it; runs = begins.runs; answered = answered_none L first_head (first_image (line_count_in old)) first begins.holds }; follows = tt };
        },
      )
  formats lines answer.FormatFault old new fails = (None, refl, tt)
  formats lines given old new none = absurd none

  stops : (lines : ℕ) (old : Session K A L W) → line_count_in old ≡ lines → (before : Option (Chain L)) → Keeps L lines before (moment_in old) → (bytes : List ℕ) → MayLeave (present (device_state old.device)) bytes
      → (later : List Lived) × EndsLife L (running_in L before) bytes (ended_in L before) later × AreChained later × ForLast (LeftAlike lines bytes) later
  stops lines old is None kept bytes left = ([], refl, tt, tt)
  stops lines old is (Some chain) kept bytes left =
      ends L lines chain.ended chain.running (moment_in old) (λ it runs. (old.living.fits it runs).lines ∙ is) kept.ended kept.now bytes left

  abbrev RevivesAs : Interleaving → Session K A L W → Session K A L W → Head → Type 0
  RevivesAs map old new found = RunsWith L (setup_over old map) (λ life. Revives L (restored_in new) found life (device_state new.device)) new.life

  revives : (lines : ℕ) (map : Interleaving) (found : Head) (old new : Session K A L W) (before : Option (Chain L)) → line_count_in old ≡ lines → line_count_in new ≡ lines
      → Keeps L lines before (moment_in old) → MayLeave (present (device_state old.device)) (device_state new.device).bytes → RevivesAs map old new found
      → (after : Option (Chain L)) × RestoresLives (restore_told (Ok found)) new before after × Keeps L lines after (moment_in new)
  revives lines map found old new before was is kept left begins =
      let made : Revives L (restored_in new) found begins.it (device_state new.device) = begins.holds in
      let first : Assembly L = assembly begins.it (device_state new.device) (meter_gauge new.gauge) in
      let life : RunningLife L = record { found = found; image = made.image; first = first; events = []; replies = [] } in
      let bytes : List ℕ = (device_state new.device).bytes in
      let all = stops lines old was before kept bytes left in
      let finds : restored lines bytes ≡ Found found.newest.slot made.image = ap (λ (n : ℕ). restored n bytes) (sym is) ∙ made.finds in (
        Some (record { ended = all.0; running = Some life }),
        (all.0, all.1, life, record { it = begins.it; runs = begins.runs; first = refl; unasked = refl; untold = refl }, made.tells, refl, refl),
        record {
          ended = all.2;
          now = record {
            lived = record { it = begins.it; runs = begins.runs; answered = answered_none L found made.image first made.stands };
            follows = last_so (LeftAlike lines bytes) (λ last. restored last.setup.shape.lines last.bytes ≡ Found found.newest.slot made.image) (λ last same. sym same ∙ finds) all.0 all.3;
          };
        },
      )

  refuses : (lines : ℕ) (error : RestoreError) (old new : Session K A L W) (before : Option (Chain L)) → line_count_in old ≡ lines → Keeps L lines before (moment_in old)
      → MayLeave (present (device_state old.device)) (device_state new.device).bytes
      → ((bytes : List ℕ) → MayLeave (present (device_state new.device)) bytes → bytes ≡ (device_state new.device).bytes) → new.life ≡ None
      → (after : Option (Chain L)) × RestoresLives (restore_told (Err error)) new before after × Keeps L lines after (moment_in new)
  refuses lines error old new None was kept left again none = (None, refl, tt)
  refuses lines error old new (Some chain) was kept left again none =
      let stopped : List ℕ = (device_state new.device).bytes in let all = stops lines old was (Some chain) kept stopped left in (
        Some (record { ended = all.0; running = None }),
        (all.0, all.1, refl),
        record {
          ended = all.2;
          now = record {
            none = none;
            leaves = λ bytes leaves. last_so (LeftAlike lines stopped) (LeftAlike lines bytes) (λ last same. ap (λ (row : List ℕ). restored lines row) (again bytes leaves) ∙ same) all.0 all.3;
          };
        },
      )

  restores : (lines : ℕ) (pick : Pick) (map : Interleaving) (given : Answer) (old new : Session K A L W) (before : Option (Chain L)) → line_count_in old ≡ lines → line_count_in new ≡ lines
      → Keeps L lines before (moment_in old) → Restores pick map given old new → (after : Option (Chain L)) × RestoresLives given new before after × Keeps L lines after (moment_in new)
  restores lines pick map given old new before was is kept r =
      subst (λ (told : Answer). (after : Option (Chain L)) × RestoresLives told new before after × Keeps L lines after (moment_in new)) (sym r.told) (by_result r.result r.revives r.none)
    where
      by_result : (result : Result Head RestoreError) → IfOk result (RevivesAs map old new) → IfErr result (λ error. new.life ≡ None)
          → (after : Option (Chain L)) × RestoresLives (restore_told result) new before after × Keeps L lines after (moment_in new)
      by_result (Ok found) begins none = revives lines map found old new before was is kept r.left begins
      by_result (Err error) begins none = refuses lines error old new before was kept r.left r.again none

  -- what a line makes of the lives
  makes : (lines : ℕ) (asked : ScriptLine) (given : Answer) (old new : Session K A L W) (before : Option (Chain L)) → line_count_in old ≡ lines → line_count_in new ≡ lines
      → Does asked given old new → Keeps L lines before (moment_in old) → (after : Option (Chain L)) × MakesOfLives asked given old new before after × Keeps L lines after (moment_in new)
  makes lines line.Format given old new before was is does kept = formats lines given old new does.0
  makes lines (line.Restore pick map) given old new before was is does kept = restores lines _ _ given old new before was is kept does.0
  makes lines (line.Write write) given old new before was is does kept = continues L lines (line.Write write) given (moment_in old) (moment_in new) before does.0.comes kept
  makes lines (line.Read at) given old new before was is does kept = continues L lines (line.Read at) given (moment_in old) (moment_in new) before does.0.comes kept
  makes lines (line.Work channel most) given old new before was is does kept = continues L lines (line.Work channel most) given (moment_in old) (moment_in new) before does.0.comes kept
  makes lines line.Save given old new before was is does kept = continues L lines line.Save given (moment_in old) (moment_in new) before does.0.comes kept
  makes lines line.Step given old new before was is does kept = continues L lines line.Step given (moment_in old) (moment_in new) before does.0.comes kept
  makes lines line.Arm given old new before was is does kept = continues L lines line.Arm given (moment_in old) (moment_in new) before does.0.comes kept
  makes lines line.Disarm given old new before was is does kept = continues L lines line.Disarm given (moment_in old) (moment_in new) before does.0.comes kept
  makes lines line.Lose given old new before was is does kept = continues L lines line.Lose given (moment_in old) (moment_in new) before does.0.comes kept
  makes lines (line.Sense level) given old new before was is does kept =
      let at : SessionAt L = moment_in old in
      continues L lines (line.Sense level) given (record at { gauge = set_to level at.gauge }) (moment_in new) before does.0.comes (charged L lines level at before kept)
  makes lines (line.Lie units) given old new before was is does kept =
      stays L lines (moment_in old) (moment_in new) (same_moment old new does.life (ap device_state does.device) does.gauge) before kept
  makes lines (line.Fuse calls) given old new before was is does kept =
      stays L lines (moment_in old) (moment_in new) (same_moment old new does.life does.device (ap meter_gauge does.gauge)) before kept
  makes lines (line.OneFault call) given old new before was is does kept =
      stays L lines (moment_in old) (moment_in new) (same_moment old new does.life does.device (ap meter_gauge does.gauge)) before kept
  makes lines line.Mark given old new before was is does kept =
      stays L lines (moment_in old) (moment_in new) (ap moment_in does.same) before kept

  -- the lives so far, of a session of so many lines
  record LivesSoFar (lines : ℕ) (lives : Option (Chain L)) (session : Session K A L W) : Type 0 where
    is : line_count_in session ≡ lines
    kept : Keeps L lines lives (moment_in session)

  each : (lines : ℕ) (asked : ScriptLine) (answers : List Answer) (old new : Session K A L W) (before : Option (Chain L)) → LivesSoFar lines before old → DoesEach asked answers old new
      → (after : Option (Chain L)) × LivesEach asked answers old new before after × LivesSoFar lines after new
  each lines asked [] old new before so_far same = (before, (same, refl), subst (λ (s : Session K A L W). LivesSoFar lines before s) (sym same) so_far)
  each lines asked (given ∷ later) old new before so_far does =
      let mid : Session K A L W = does.0 in let terms : KeepsTerms old mid = does.2 in
      let is : line_count_in mid ≡ lines = ap (λ (p : Profile). lines_of p.checked.geometry) terms.profile ∙ so_far.is in
      let made = makes lines asked given old mid before so_far.is is does.1 so_far.kept in
      let rest = each lines asked later mid new made.0 (record { is = is; kept = made.2 }) does.3 in
      (rest.0, (mid, made.0, does.1, made.1, rest.1), rest.2)

  all : (lines : ℕ) (story : List Exchange) (old new : Session K A L W) (before : Option (Chain L)) → LivesSoFar lines before old → DoesAll story old new
      → (after : Option (Chain L)) × LivesAll story old new before after × LivesSoFar lines after new
  all lines [] old new before so_far same = (before, (same, refl), subst (λ (s : Session K A L W). LivesSoFar lines before s) (sym same) so_far)
  all lines (exchange ∷ later) old new before so_far does =
      let made = each lines exchange.asked exchange.answers old does.0 before so_far does.1 in
      let rest = all lines later does.0 new made.0 made.2 does.2 in
      (rest.0, (does.0, made.0, made.1, rest.1), rest.2)

  pub lives_in_chain : (story : List Exchange) (first last : Session K A L W) → DoesAll story first last → LivesInChain story first last
  lives_in_chain story first last does =
      let made = all (line_count_in first) story first last None (record { is = refl; kept = tt }) does in
      record { lives = made.0; through = made.1; chained = all_chained L (line_count_in first) made.0 (moment_in last) made.2.kept }
