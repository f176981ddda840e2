-- A save that is finished again after each failure of the device: what its rounds come to together.
use Rattle.std.proofs.Math.Seq.{drop-nil, take-add}
use Rattle.std.proofs.lemmas.List.{append_assoc, map-append, take-append-drop}
use Rattle.std.specs.Prelude.{slice_get, MatchResult}
use Rattle.save_device.proofs.Moments.{last_within, started}
use Rattle.save_device.specs.Calls.{all_good, called}
use Rattle.save_device.specs.Changes.{call_of}
use Rattle.save_device.specs.declared.calls.Call.{Call}
use Rattle.save_device.specs.declared.calls.CallKind.{CallKind}
use Rattle.slot_store.specs.Finishing.{AsksFor, Finish, Finishes, GrantsFirst, LeavesInFirst, StandsAfter, TriesFirst, Underway, calls_to_come, is_tried, steps_tried, underway}
use Rattle.slot_store.specs.Repeating.{AsksForTries, FailsWithin, FinishesRepeating, GrantsTries}
use Rattle.slot_store.specs.Runs.{next_of, plan_of, tried_of}
use Rattle.slot_store.specs.Steps.{step_later}
use Rattle.slot_store.specs.Tries.{StepsBelow, calls_tried, fails, goods, is_failed, steps_reached}
use Rattle.slot_store.specs.declared.saving.SaveRun.{SaveRun}
use Rattle.slot_store.specs.declared.source.Refused.{Refused}
use Rattle.slot_store.specs.declared.source.SaveSource.{Ghosts}
use Rattle.slot_store.specs.declared.source.BrokenOff.TheVariants as broken
use Rattle.slot_store.proofs.Common.{[], if◌then◌else◌, ℕ, ◌++◌, ◌+◌, ◌<◌, ◌∙◌, ◌∷◌, ◌≡◌, ◌≤◌, ◌⊎◌, Bool, CallsFor, DeviceState, DiffersOnlyAt, Done, Err, Image, IsInRange, IsMemory, Candidates, Leaves, LeavesOnly, List, MayLeave, Ok, Plan, Result, Some, Step, and_then, ap, append-nil, arith, calls_left, change_of, device_size, drop, false, gate_of, inl, inr, length, present, refl, slot_size, step_after, step_on, steps_left, steps_to_come, subst, suc, sym, take, true, weaker, zero}
use Rattle.slot_store.proofs.StepsLeft.{calls_left-after, drop_later, left_later, no_steps_left, reach_later}
use Rattle.slot_store.proofs.Standing.{below_or_not}
use Rattle.slot_store.proofs.StepsMade.{made_by}

-- The tries of one round: so many steps went well, and in the next one the device failed where that broke the round off.
abbrev pub all_well : ℕ → List Bool
all_well zero = []
all_well (suc n) = all_well n ++ true ∷ []

abbrev pub round : Finish → ℕ → List Bool
round (Err broken.Fault) made = all_well made ++ false ∷ []
round finish made = all_well made

-- tries in turn
pub goods_both : (xs ys : List Bool) → goods (xs ++ ys) ≡ goods xs + goods ys
goods_both [] ys = omega arith
goods_both (true ∷ xs) ys = omega (arith, goods_both xs ys)
goods_both (false ∷ xs) ys = goods_both xs ys

pub fails_both : (xs ys : List Bool) → fails (xs ++ ys) ≡ fails xs + fails ys
fails_both [] ys = omega arith
fails_both (true ∷ xs) ys = fails_both xs ys
fails_both (false ∷ xs) ys = omega (arith, fails_both xs ys)

pub failed_both : (before : Bool) (xs ys : List Bool) → is_failed before (xs ++ ys) ≡ is_failed (is_failed before xs) ys
failed_both before [] ys = refl
failed_both before (true ∷ xs) ys = failed_both false xs ys
failed_both before (false ∷ xs) ys = failed_both true xs ys

goods_well : (n : ℕ) → goods (all_well n) ≡ n
goods_well zero = refl
goods_well (suc n) = let one : goods (true ∷ []) ≡ 1 = refl in omega (arith, goods_both (all_well n) (true ∷ []), goods_well n, one)

fails_well : (n : ℕ) → fails (all_well n) ≡ 0
fails_well zero = refl
fails_well (suc n) = let none : fails (true ∷ []) ≡ 0 = refl in omega (arith, fails_both (all_well n) (true ∷ []), fails_well n, none)

failed_well : (before : Bool) (n : ℕ) → is_failed before (all_well n) ≡ is_tried (Ok tt) n before
failed_well before zero = refl
failed_well before (suc n) = failed_both before (all_well n) (true ∷ [])

goods_round : (finish : Finish) (n : ℕ) → goods (round finish n) ≡ n
goods_round (Ok done) n = goods_well n
goods_round (Err broken.Refused) n = goods_well n
goods_round (Err broken.Fault) n = let none : goods (false ∷ []) ≡ 0 = refl in omega (arith, goods_both (all_well n) (false ∷ []), goods_well n, none)

failed_round : (finish : Finish) (before : Bool) (n : ℕ) → is_failed before (round finish n) ≡ is_tried finish n before
failed_round (Ok done) before n = failed_well before n
failed_round (Err broken.Refused) before zero = refl
failed_round (Err broken.Refused) before (suc n) = failed_well before (suc n)
failed_round (Err broken.Fault) before n = failed_both before (all_well n) (false ∷ [])

-- the calls of tries in turn
no_calls : (tries : List Bool) → calls_tried [] tries ≡ []
no_calls [] = refl
no_calls (good ∷ tries) = refl

pub calls_both : (kinds : List CallKind) (xs ys : List Bool) → calls_tried kinds (xs ++ ys) ≡ calls_tried kinds xs ++ calls_tried (drop (goods xs) kinds) ys
calls_both kinds [] ys = refl
calls_both [] (good ∷ xs) ys = sym (ap (λ (kinds : List CallKind). calls_tried kinds ys) (drop-nil (goods (good ∷ xs))) ∙ no_calls ys)
calls_both (kind ∷ kinds) (true ∷ xs) ys = ap (λ (calls : List Call). called kind true ∷ calls) (calls_both kinds xs ys)
calls_both (kind ∷ kinds) (false ∷ xs) ys = ap (λ (calls : List Call). called kind false ∷ calls) (calls_both (kind ∷ kinds) xs ys)

one_call : (kinds : List CallKind) → calls_tried kinds (true ∷ []) ≡ all_good (take 1 kinds)
one_call [] = refl
one_call (kind ∷ kinds) = refl

pub calls_well : (kinds : List CallKind) (n : ℕ) → calls_tried kinds (all_well n) ≡ all_good (take n kinds)
calls_well kinds zero = refl
calls_well kinds (suc n) =
    let next : suc n ≡ n + 1 = omega arith in
    calls_both kinds (all_well n) (true ∷ [])
    ∙ ap (λ (k : ℕ). calls_tried kinds (all_well n) ++ calls_tried (drop k kinds) (true ∷ [])) (goods_well n)
    ∙ ap (λ (calls : List Call). calls ++ calls_tried (drop n kinds) (true ∷ [])) (calls_well kinds n)
    ∙ ap (λ (calls : List Call). all_good (take n kinds) ++ calls) (one_call (drop n kinds))
    ∙ sym (map-append (λ k. called k true) (take n kinds) (take 1 (drop n kinds)))
    ∙ ap all_good (sym (take-add n 1 kinds))
    ∙ ap (λ (k : ℕ). all_good (take k kinds)) (sym next)

failed_call : (kinds : List CallKind) (n : ℕ) (kind : CallKind) → slice_get kinds n ≡ Some kind → calls_tried (drop n kinds) (false ∷ []) ≡ called kind false ∷ []
failed_call [] zero kind is = absurd (let bad : ⊥ = cc in bad)
failed_call [] (suc n) kind is = absurd (let bad : ⊥ = cc in bad)
failed_call (k ∷ kinds) zero kind is = let same : k ≡ kind = cc in ap (λ (k : CallKind). called k false ∷ []) same
failed_call (k ∷ kinds) (suc n) kind is = failed_call kinds n kind is

calls_round : (kinds : List CallKind) (finish : Finish) (n : ℕ) (old new : List Call) → (finish ≡ Ok tt → take n kinds ≡ kinds) → CallsFor kinds finish n old new → new ≡ old ++ calls_tried kinds (round finish n)
calls_round kinds (Ok done) n old new all calls = calls ∙ ap (λ (ks : List CallKind). old ++ all_good ks) (sym (all refl)) ∙ ap (λ (cs : List Call). old ++ cs) (sym (calls_well kinds n))
calls_round kinds (Err broken.Refused) n old new all calls = calls ∙ ap (λ (cs : List Call). old ++ cs) (sym (calls_well kinds n))
calls_round kinds (Err broken.Fault) n old new all calls =
    let parts : calls_tried kinds (all_well n ++ false ∷ []) ≡ all_good (take n kinds) ++ called calls.0 false ∷ [] =
    calls_both kinds (all_well n) (false ∷ [])
    ∙ ap (λ (k : ℕ). calls_tried kinds (all_well n) ++ calls_tried (drop k kinds) (false ∷ [])) (goods_well n)
    ∙ ap (λ (cs : List Call). cs ++ calls_tried (drop n kinds) (false ∷ [])) (calls_well kinds n)
    ∙ ap (λ (cs : List Call). all_good (take n kinds) ++ cs) (failed_call kinds n calls.0 calls.1) in
    calls.2 ∙ append_assoc old (all_good (take n kinds)) (called calls.0 false ∷ []) ∙ ap (λ (cs : List Call). old ++ cs) (sym parts)

-- where nothing is left behind the first ones, they are all
take_whole : (kinds : List CallKind) (k : ℕ) → drop k kinds ≡ [] → take k kinds ≡ kinds
take_whole kinds k none = sym (append-nil (take k kinds)) ∙ ap (λ (ks : List CallKind). take k kinds ++ ks) (sym none) ∙ take-append-drop k kinds

-- how far a round reaches
reach_made : (n g : ℕ) (b c : Bool) (all : ℕ) → c ≡ is_tried (Ok tt) n b → all ≡ g + n
    → ((if b then suc g else g) ≤ (if c then suc all else all)) × ((k : ℕ) → k < n → g + k < (if c then suc all else all))
reach_made zero g true true all is sum = (omega (arith, sum), λ k less. absurd (omega (arith, less)))
reach_made zero g true false all is sum = absurd (let bad : ⊥ = cc in bad)
reach_made zero g false true all is sum = absurd (let bad : ⊥ = cc in bad)
reach_made zero g false false all is sum = (omega (arith, sum), λ k less. absurd (omega (arith, less)))
reach_made (suc n) g b true all is sum = absurd (let bad : ⊥ = cc in bad)
reach_made (suc n) g true false all is sum = (omega (arith, sum), λ k less. omega (arith, sum, less))
reach_made (suc n) g false false all is sum = (omega (arith, sum), λ k less. omega (arith, sum, less))

untried_same : (n : ℕ) (b : Bool) → is_tried (Err broken.Refused) n b ≡ is_tried (Ok tt) n b
untried_same zero b = refl
untried_same (suc n) b = refl

reach_further : (finish : Finish) (n g : ℕ) (b c : Bool) (all : ℕ) → c ≡ is_tried finish n b → all ≡ g + n
    → ((if b then suc g else g) ≤ (if c then suc all else all)) × ((k : ℕ) → k < steps_tried finish n → g + k < (if c then suc all else all))
reach_further (Ok done) n g b c all is sum = reach_made n g b c all is sum
reach_further (Err broken.Refused) n g b c all is sum = reach_made n g b c all (is ∙ untried_same n b) sum
reach_further (Err broken.Fault) n g b false all is sum = absurd (let bad : ⊥ = cc in bad)
reach_further (Err broken.Fault) n g true true all is sum = (omega (arith, sum), λ k less. omega (arith, sum, less))
reach_further (Err broken.Fault) n g false true all is sum = (omega (arith, sum), λ k less. omega (arith, sum, less))

-- how many tries failed, where a round ended so
few_behind : (repeats : ℕ) (finish : Finish) (n : ℕ) (tries : List Bool) → fails tries ≤ repeats → (finish ≡ Err broken.Fault → fails tries ≡ repeats) → FailsWithin repeats finish (tries ++ round finish n)
few_behind repeats (Ok done) n tries few all = omega (arith, fails_both tries (all_well n), fails_well n, few)
few_behind repeats (Err broken.Refused) n tries few all = omega (arith, fails_both tries (all_well n), fails_well n, few)
few_behind repeats (Err broken.Fault) n tries few all =
    let one : fails (false ∷ []) ≡ 1 = refl in (
      omega (arith, fails_both tries (all_well n ++ false ∷ []), fails_both (all_well n) (false ∷ []), fails_well n, one, all refl),
      failed_both false tries (all_well n ++ false ∷ []) ∙ failed_both (is_failed false tries) (all_well n) (false ∷ []),
    )

-- tries of so many steps
below_both : (count : ℕ) (xs ys : List Bool) (n : ℕ) → StepsBelow count xs n → StepsBelow count ys (n + goods xs) → StepsBelow count (xs ++ ys) n
below_both count [] ys n one two = let none : n + 0 ≡ n = omega arith in subst (StepsBelow count ys) none two
below_both count (true ∷ xs) ys n one two =
    let next : n + suc (goods xs) ≡ suc n + goods xs = omega arith in (one.0, below_both count xs ys (suc n) one.1 (subst (StepsBelow count ys) next two))
below_both count (false ∷ xs) ys n one two = (one.0, below_both count xs ys n one.1 two)

below_well : (count n made : ℕ) → n + made ≤ count → StepsBelow count (all_well made) n
below_well count n zero within = tt
below_well count n (suc made) within =
    below_both count (all_well made) (true ∷ []) n (below_well count n made (omega (arith, within))) (omega (arith, within, goods_well made), tt)

below_round : (count n : ℕ) (finish : Finish) (made : ℕ) → n + made ≤ count → (finish ≡ Err broken.Fault → n + made < count) → StepsBelow count (round finish made) n
below_round count n (Ok done) made within less = below_well count n made within
below_round count n (Err broken.Refused) made within less = below_well count n made within
below_round count n (Err broken.Fault) made within less =
    below_both count (all_well made) (false ∷ []) n (below_well count n made within) (let last : n + made < count = less refl in omega (arith, last, goods_well made), tt)

-- later steps
later_on : (lines : ℕ) (first : Step) (n k : ℕ) → step_later lines (step_later lines first n) k ≡ step_later lines first (n + k)
later_on lines first n zero = let none : n ≡ n + 0 = omega arith in ap (step_later lines first) none
later_on lines first n (suc k) =
    let one : suc (n + k) ≡ n + suc k = omega arith in
    ap (step_after lines) (later_on lines first n k) ∙ ap (step_later lines first) one

-- what was asked for
module _ {S : Type 0} (asks : S → Step → Result (Unit {0}) Refused → S → Type 0) (step : ℕ → Step) where
  pub grants_both : (xs ys : List Bool) (n : ℕ) (old mid new : S) → GrantsTries asks step xs n old mid → GrantsTries asks step ys (n + goods xs) mid new → GrantsTries asks step (xs ++ ys) n old new
  grants_both [] ys n old mid new one two =
      let none : n + 0 ≡ n = omega arith in subst (λ (s : S). GrantsTries asks step ys n s new) one (subst (λ (k : ℕ). GrantsTries asks step ys k mid new) none two)
  grants_both (true ∷ xs) ys n old mid new one two =
      let next : n + suc (goods xs) ≡ suc n + goods xs = omega arith in
      (one.0, one.1, grants_both xs ys (suc n) one.0 mid new one.2 (subst (λ (k : ℕ). GrantsTries asks step ys k mid new) next two))
  grants_both (false ∷ xs) ys n old mid new one two = (one.0, one.1, grants_both xs ys n one.0 mid new one.2 two)

  grants_well : (later : ℕ → Step) (n : ℕ) → ((k : ℕ) → later k ≡ step (n + k)) → (made : ℕ) (old new : S) → GrantsFirst asks later made old new → GrantsTries asks step (all_well made) n old new
  grants_well later n at zero old new granted = granted
  grants_well later n at (suc made) old new granted =
      let here : later made ≡ step (n + goods (all_well made)) = at made ∙ ap (λ (k : ℕ). step (n + k)) (sym (goods_well made)) in
      grants_both (all_well made) (true ∷ []) n old granted.0 new (grants_well later n at made old granted.0 granted.1)
      (new, subst (λ (s : Step). asks granted.0 s (Ok tt) new) here granted.2, refl)

module _ {S : Type 0} (G : Ghosts S) (source : S) (run : SaveRun) (old : DeviceState) where
  abbrev memory : List (List ℕ)
  memory = G.memory source

  -- these tries were made, from the first step on
  pub record HasTried (tries : List Bool) (giver : S) (at : SaveRun) (now : DeviceState) : Type 0 where
    pub stands : StandsAfter (goods tries) (is_failed (tried_of run) tries) run at
    pub granted : GrantsTries G.asks (step_on run) tries 0 source giver
    pub calls : now.calls ≡ old.calls ++ calls_tried (calls_to_come run) tries
    pub same : G.memory giver ≡ memory
    pub below : StepsBelow (steps_to_come run) tries 0
    pub steps : TriesFirst memory (steps_reached tries) run old at now

  module _ (size : length old.bytes ≡ device_size (plan_of run).lines) where
    -- before the first one
    pub nothing_tried : HasTried [] source run old
    nothing_tried = record {
      stands = record { plan = refl; next = refl; left = omega arith; tried_is = refl };
      granted = refl;
      calls = sym (append-nil old.calls);
      same = refl;
      below = tt;
      steps = record {
        has = λ is so. so;
        outside = record { size = refl; outside = λ place out. refl };
        size = started old (λ left may. may.size ∙ size);
        saving = λ candidates image s. s;
        any_moment = λ candidates image s. started old (λ left may. inl may);
      };
    }

    -- one round more
    module _ (tries : List Bool) (giver : S) (at : SaveRun) (now : DeviceState) (m : HasTried tries giver at now) (finish : Finish) (later_giver : S) (later : SaveRun) (new : DeviceState)
        (told : Finishes G finish (underway giver at now) (underway later_giver later new)) where
      abbrev pub all_tries : List Bool
      all_tries = tries ++ round finish told.made

      made_all : goods all_tries ≡ goods tries + told.made
      made_all = omega (arith, goods_both tries (round finish told.made), goods_round finish told.made)

      step_at : (k : ℕ) → step_on at k ≡ step_on run (goods tries + k)
      step_at k =
          ap (λ (p : Plan). step_later p.lines (next_of at) k) m.stands.plan ∙ ap (λ (s : Step). step_later (plan_of run).lines s k) m.stands.next
          ∙ later_on (plan_of run).lines (next_of run) (goods tries) k

      tried_all : is_failed (tried_of run) all_tries ≡ is_tried finish told.made (tried_of at)
      tried_all =
          failed_both (tried_of run) tries (round finish told.made) ∙ ap (λ (b : Bool). is_failed b (round finish told.made)) (sym m.stands.tried_is)
          ∙ failed_round finish (tried_of at) told.made

      stands_on : StandsAfter (goods all_tries) (is_failed (tried_of run) all_tries) run later
      stands_on = record {
        plan = told.stands.plan ∙ m.stands.plan;
        next = told.stands.next ∙ step_at told.made ∙ ap (step_on run) (sym made_all);
        left = omega (arith, told.stands.left, m.stands.left, made_all);
        tried_is = told.stands.tried_is ∙ sym tried_all;
      }

      -- the steps that were tried
      below_on : StepsBelow (steps_to_come run) all_tries 0
      below_on =
          let within : 0 + goods tries + told.made ≤ steps_to_come run = omega (arith, told.stands.left, m.stands.left) in
          below_both (steps_to_come run) tries (round finish told.made) 0 m.below
          (below_round (steps_to_come run) (0 + goods tries) finish told.made within (λ is.
          let less : told.made < steps_to_come at =
          subst (λ (f : Finish). MatchResult f (λ done. told.made ≡ steps_to_come at) (λ why. told.made < steps_to_come at)) is (made_by G finish (underway giver at now) (underway later_giver later new) told) in
          omega (arith, less, m.stands.left)))

      -- the calls
      to_come : drop (goods tries) (calls_to_come run) ≡ calls_to_come at
      to_come =
          drop_later (plan_of run).lines (plan_of run).capacity (next_of run) run.place (calls_left (plan_of run).closed (plan_of run).lines) (λ s. call_of (change_of (plan_of run) [] s []))
          (λ s reach some. calls_left-after (plan_of run) [] s [] reach some) (goods tries) (omega (arith, m.stands.left))
          ∙ ap (calls_left (plan_of run).closed (plan_of run).lines) (sym m.stands.next)
          ∙ ap (λ (p : Plan). calls_left p.closed p.lines (next_of at)) (sym m.stands.plan)

      take_all : finish ≡ Ok tt → take told.made (calls_to_come at) ≡ calls_to_come at
      take_all is =
          let all : told.made ≡ steps_to_come at =
          subst (λ (f : Finish). MatchResult f (λ done. told.made ≡ steps_to_come at) (λ why. told.made < steps_to_come at)) is (made_by G finish (underway giver at now) (underway later_giver later new) told) in
          let left : steps_left (plan_of at).lines (step_on at told.made) + told.made ≡ steps_to_come at = left_later (plan_of at).lines (plan_of at).capacity (next_of at) at.place told.made (omega (arith, all)) in
          let done : step_on at told.made ≡ Done =
          no_steps_left (plan_of at).lines (step_on at told.made) (reach_later (plan_of at).lines (plan_of at).capacity (next_of at) at.place told.made) (omega (arith, left, all)) in
          take_whole (calls_to_come at) told.made
          (drop_later (plan_of at).lines (plan_of at).capacity (next_of at) at.place (calls_left (plan_of at).closed (plan_of at).lines) (λ s. call_of (change_of (plan_of at) [] s []))
          (λ s reach some. calls_left-after (plan_of at) [] s [] reach some) told.made (omega (arith, all))
          ∙ ap (calls_left (plan_of at).closed (plan_of at).lines) done)

      calls_on : new.calls ≡ old.calls ++ calls_tried (calls_to_come run) all_tries
      calls_on =
          calls_round (calls_to_come at) finish told.made now.calls new.calls take_all told.calls
          ∙ ap (λ (cs : List Call). cs ++ calls_tried (calls_to_come at) (round finish told.made)) m.calls
          ∙ append_assoc old.calls (calls_tried (calls_to_come run) tries) (calls_tried (calls_to_come at) (round finish told.made))
          ∙ ap (λ (kinds : List CallKind). old.calls ++ (calls_tried (calls_to_come run) tries ++ calls_tried kinds (round finish told.made))) (sym to_come)
          ∙ ap (λ (cs : List Call). old.calls ++ cs) (sym (calls_both (calls_to_come run) tries (round finish told.made)))

      -- the steps
      reached : ℕ
      reached = steps_reached all_tries

      same_round : TriesFirst memory (steps_tried finish told.made) at now later new
      same_round = subst (λ (lines : List (List ℕ)). TriesFirst lines (steps_tried finish told.made) at now later new) m.same told.tries

      further : (steps_reached tries ≤ steps_reached all_tries) × ((k : ℕ) → k < steps_tried finish told.made → goods tries + k < steps_reached all_tries)
      further =
          reach_further finish told.made (goods tries) (is_failed false tries) (is_failed false all_tries) (goods all_tries)
          (failed_both false tries (round finish told.made) ∙ failed_round finish (is_failed false tries) told.made) made_all

      steps_on : TriesFirst memory (steps_reached all_tries) run old later new
      steps_on = record {
        has = λ is so. same_round.has (subst (λ (p : Plan). IsMemory p.lines memory) (sym m.stands.plan) is) (m.steps.has is so);
        outside = record { size = outside.size ∙ m.steps.outside.size; outside = λ place out. outside.outside place out ∙ m.steps.outside.outside place out };
        size = and_then old now new m.steps.size (subst (λ (p : Plan). LeavesOnly now new (λ image. length image ≡ device_size p.lines)) m.stands.plan same_round.size);
        saving = λ candidates image s. same_round.saving candidates image (m.steps.saving candidates image s);
        any_moment = λ candidates image s.
            let first = m.steps.any_moment candidates image s in
            and_then old now new (weaker old now (before candidates image) first)
            (weaker now new (behind candidates image (last_within old now first)) (same_round.any_moment candidates image (m.steps.saving candidates image s)));
      }
        where
          outside : DiffersOnlyAt (IsInRange (gate_of (plan_of run)) (slot_size (plan_of run).lines)) now.bytes new.bytes
          outside = subst (λ (p : Plan). DiffersOnlyAt (IsInRange (gate_of p) (slot_size p.lines)) now.bytes new.bytes) m.stands.plan same_round.outside

          before : (candidates : Candidates) (image : Image) (left : List ℕ) → MayLeave (present old) left ⊎ LeavesInFirst candidates image memory run (steps_reached tries) left
              → MayLeave (present old) left ⊎ LeavesInFirst candidates image memory run (steps_reached all_tries) left
          before candidates image left (inl may) = inl may
          before candidates image left (inr first) = inr (first.0, omega (arith, first.1, further.0), first.2)

          behind : (candidates : Candidates) (image : Image) → ((left : List ℕ) → MayLeave (present now) left → MayLeave (present old) left ⊎ LeavesInFirst candidates image memory run (steps_reached tries) left)
              → (left : List ℕ) → MayLeave (present now) left ⊎ LeavesInFirst candidates image memory at (steps_tried finish told.made) left
              → MayLeave (present old) left ⊎ LeavesInFirst candidates image memory run (steps_reached all_tries) left
          behind candidates image here left (inl may) = before candidates image left (here left may)
          behind candidates image here left (inr next) =
              inr (
                goods tries + next.0,
                further.1 next.0 next.1,
                subst (λ (s : Step). Leaves candidates image (plan_of run) memory s left) (step_at next.0)
                    (subst (λ (p : Plan). Leaves candidates image p memory (step_on at next.0) left) m.stands.plan next.2),
              )

      -- what was asked for
      step_from : (k : ℕ) → step_on at k ≡ step_on run (0 + goods tries + k)
      step_from k = let same : goods tries + k ≡ 0 + goods tries + k = omega arith in step_at k ∙ ap (step_on run) same

      asks_on : (ended : Finish) (made : ℕ) (last : S) → AsksFor G.asks (step_on at) ended made giver last → AsksForTries G.asks (step_on run) ended (tries ++ round ended made) source last
      asks_on (Ok done) made last asked =
          grants_both G.asks (step_on run) tries (all_well made) 0 source giver last m.granted (grants_well G.asks (step_on run) (step_on at) (0 + goods tries) step_from made giver last asked)
      asks_on (Err broken.Refused) made last asked =
          let here : step_on at made ≡ step_on run (goods (tries ++ all_well made)) =
          step_at made ∙ ap (step_on run) (let all : goods tries + made ≡ goods (tries ++ all_well made) = omega (arith, goods_both tries (all_well made), goods_well made) in all) in (
            asked.0,
            asked.1,
            grants_both G.asks (step_on run) tries (all_well made) 0 source giver asked.0 m.granted (grants_well G.asks (step_on run) (step_on at) (0 + goods tries) step_from made giver asked.0 asked.2),
            subst (λ (s : Step). G.asks asked.0 s (Err asked.1) last) here asked.3,
          )
      asks_on (Err broken.Fault) made last asked =
          let here : step_on at made ≡ step_on run (0 + goods tries + goods (all_well made)) = step_from made ∙ ap (λ (k : ℕ). step_on run (0 + goods tries + k)) (sym (goods_well made)) in
          grants_both G.asks (step_on run) tries (all_well made ++ false ∷ []) 0 source giver last m.granted
          (grants_both G.asks (step_on run) (all_well made) (false ∷ []) (0 + goods tries) giver asked.0 last
          (grants_well G.asks (step_on run) (step_on at) (0 + goods tries) step_from made giver asked.0 asked.1)
          (last, subst (λ (s : Step). G.asks asked.0 s (Ok tt) last) here asked.2, refl))

      -- the save was finished, or broken off for good
      pub ends_repeating : (repeats : ℕ) → fails tries ≤ repeats → (finish ≡ Err broken.Fault → fails tries ≡ repeats)
          → FinishesRepeating G repeats finish (underway source run old) (underway later_giver later new)
      ends_repeating repeats few all = record {
        tries = all_tries;
        few = few_behind repeats finish told.made tries few all;
        below = below_on;
        stands = stands_on;
        ends = told.ends;
        asks = asks_on finish told.made later_giver told.asks;
        calls = calls_on;
        memory = told.memory ∙ m.same;
        steps = steps_on;
      }

  -- in so many rounds the device failed
  pub record HasFailed (rounds : ℕ) (giver : S) (at : SaveRun) (now : DeviceState) : Type 0 where
    pub tries : List Bool
    pub failed : fails tries ≡ rounds
    pub has : HasTried tries giver at now

  module _ (size : length old.bytes ≡ device_size (plan_of run).lines) where
    pub never_failed : HasFailed 0 source run old
    never_failed = record { tries = []; failed = refl; has = nothing_tried size }

    module _ (rounds : ℕ) (giver : S) (at : SaveRun) (now : DeviceState) (f : HasFailed rounds giver at now) where
      -- the next round can begin
      pub sized : length now.bytes ≡ device_size (plan_of at).lines
      sized = f.has.steps.outside.size ∙ size ∙ ap (λ (p : Plan). device_size p.lines) (sym f.has.stands.plan)

      pub lined : length memory ≡ (plan_of run).lines → length (G.memory giver) ≡ (plan_of at).lines
      lined is = ap length f.has.same ∙ is ∙ ap (λ (p : Plan). p.lines) (sym f.has.stands.plan)

      module _ (finish : Finish) (later_giver : S) (later : SaveRun) (new : DeviceState) (told : Finishes G finish (underway giver at now) (underway later_giver later new)) where
        -- it failed too
        pub fails_again : finish ≡ Err broken.Fault → HasFailed (suc rounds) later_giver later new
        fails_again is =
            let fault : Finishes G (Err broken.Fault) (underway giver at now) (underway later_giver later new) = subst (λ (x : Finish). Finishes G x (underway giver at now) (underway later_giver later new)) is told in
            let by = ends_repeating size f.tries giver at now f.has (Err broken.Fault) later_giver later new fault (fails f.tries) (omega arith) (λ same. refl) in
            record {
              tries = by.tries;
              failed = omega (arith, by.few.0, f.failed);
              has = record { stands = by.stands; granted = by.asks; calls = by.calls; same = by.memory; below = by.below; steps = by.steps };
            }

        -- it is the last one
        pub ends_last : (repeats : ℕ) (answer : Finish) → finish ≡ answer → rounds ≤ repeats → (answer ≡ Err broken.Fault → rounds ≡ repeats)
            → FinishesRepeating G repeats answer (underway source run old) (underway later_giver later new)
        ends_last repeats answer is within all =
            let same : Finishes G answer (underway giver at now) (underway later_giver later new) = subst (λ (x : Finish). Finishes G x (underway giver at now) (underway later_giver later new)) is told in
            ends_repeating size f.tries giver at now f.has answer later_giver later new same repeats (omega (arith, within, f.failed)) (λ is. f.failed ∙ all is)

-- all steps were made where the save is done, and not all where it was broken off
pub goods_by : {S : Type 0} (G : Ghosts S) (repeats : ℕ) (finish : Finish) (old new : Underway S) (told : FinishesRepeating G repeats finish old new)
    → MatchResult finish (λ done. goods told.tries ≡ steps_to_come old.run) (λ why. goods told.tries < steps_to_come old.run)
goods_by G repeats (Ok done) old new told = let none : steps_to_come new.run ≡ 0 = ap (steps_left (plan_of new.run).lines) told.ends in omega (arith, none, told.stands.left)
goods_by G repeats (Err why) old new told = elim (below_or_not 0 (steps_to_come new.run)) [
  | inl some ↦ omega (arith, some.1, told.stands.left)
  | inr none ↦ absurd (told.ends (no_steps_left (plan_of new.run).lines (next_of new.run) new.run.place (omega (arith, none.1))))
]

-- what each ask keeps is kept
module _ {S X : Type 0} (asks : S → Step → Result (Unit {0}) Refused → S → Type 0) (kept : S → X) (keeps : (old : S) (s : Step) (result : Result (Unit {0}) Refused) (new : S) → asks old s result new → kept new ≡ kept old)
    (step : ℕ → Step) where
  granted_keeps : (tries : List Bool) (n : ℕ) (old new : S) → GrantsTries asks step tries n old new → kept new ≡ kept old
  granted_keeps [] n old new granted = ap kept granted
  granted_keeps (true ∷ tries) n old new granted = granted_keeps tries (suc n) granted.0 new granted.2 ∙ keeps old (step n) (Ok tt) granted.0 granted.1
  granted_keeps (false ∷ tries) n old new granted = granted_keeps tries n granted.0 new granted.2 ∙ keeps old (step n) (Ok tt) granted.0 granted.1

  pub tried_keeps : (finish : Finish) (tries : List Bool) (old new : S) → AsksForTries asks step finish tries old new → kept new ≡ kept old
  tried_keeps (Ok done) tries old new asked = granted_keeps tries 0 old new asked
  tried_keeps (Err broken.Refused) tries old new asked = keeps asked.0 (step (goods tries)) (Err asked.1) new asked.3 ∙ granted_keeps tries 0 old asked.0 asked.2
  tried_keeps (Err broken.Fault) tries old new asked = granted_keeps tries 0 old new asked

-- a source that is seen as another one, whose asks follow
module _ {S T : Type 0} (G : Ghosts S) (H : Ghosts T) (see : S → T) (follow : (old : S) (s : Step) (result : Result (Unit {0}) Refused) (new : S) → G.asks old s result new → H.asks (see old) s result (see new)) where
  granted_as : (step : ℕ → Step) (tries : List Bool) (n : ℕ) (old new : S) → GrantsTries G.asks step tries n old new → GrantsTries H.asks step tries n (see old) (see new)
  granted_as step [] n old new granted = ap see granted
  granted_as step (true ∷ tries) n old new granted = (see granted.0, follow old (step n) (Ok tt) granted.0 granted.1, granted_as step tries (suc n) granted.0 new granted.2)
  granted_as step (false ∷ tries) n old new granted = (see granted.0, follow old (step n) (Ok tt) granted.0 granted.1, granted_as step tries n granted.0 new granted.2)

  tried_as : (step : ℕ → Step) (finish : Finish) (tries : List Bool) (old new : S) → AsksForTries G.asks step finish tries old new → AsksForTries H.asks step finish tries (see old) (see new)
  tried_as step (Ok done) tries old new asked = granted_as step tries 0 old new asked
  tried_as step (Err broken.Refused) tries old new asked =
      (see asked.0, asked.1, granted_as step tries 0 old asked.0 asked.2, follow asked.0 (step (goods tries)) (Err asked.1) new asked.3)
  tried_as step (Err broken.Fault) tries old new asked = granted_as step tries 0 old new asked

  pub repeating_as : ((source : S) → G.memory source ≡ H.memory (see source)) → (repeats : ℕ) (finish : Finish) (old new : Underway S) → FinishesRepeating G repeats finish old new
      → FinishesRepeating H repeats finish (underway (see old.source) old.run old.device) (underway (see new.source) new.run new.device)
  repeating_as same repeats finish old new told = record {
    tries = told.tries;
    few = told.few;
    below = told.below;
    stands = told.stands;
    ends = told.ends;
    asks = tried_as (step_on old.run) finish told.tries old.source new.source told.asks;
    calls = told.calls;
    memory = sym (same new.source) ∙ told.memory ∙ same old.source;
    steps = subst (λ (memory : List (List ℕ)). TriesFirst memory (steps_reached told.tries) old.run old.device new.run new.device) (same old.source) told.steps;
  }
