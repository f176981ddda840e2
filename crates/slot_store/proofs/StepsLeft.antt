-- The steps that are still to come, and their calls.
use Rattle.save_device.specs.Changes.{call_of}
use Rattle.save_device.specs.declared.calls.CallKind.{CallKind}
use Rattle.slot_store.specs.Slots.{IsCapacity}
use Rattle.slot_store.specs.Steps.{page_calls, step_later}
use Rattle.std.specs.Prelude.{slice_get}
use Rattle.std.proofs.Common.{drop, rules, take, zero}
use Rattle.slot_store.proofs.Common.{[], if◌then◌else◌, ℕ, ◌*◌, ◌++◌, ◌+◌, ◌-◌, ◌/◌, ◌<◌, ◌∙◌, ◌∷◌, ◌≡◌, ◌≤◌, Bool, Close, Done, Header, List, Open, Page, Plan, Put, Settle, Step, Sync, SyncBody, SyncClosed, SyncOpen, Write, ap, arith, calls_left, change_of, false, gate_of, inl, inr, nat_lt, reach_of, refl, replicate, step_after, steps_left, suc, sym, true, Some}
use Rattle.slot_store.proofs.Standing.{below_or_not}

-- each step leaves one less
pub steps_left-after : (lines : ℕ) (next : Step) → IsCapacity lines → reach_of next ≤ lines → 0 < steps_left lines next → steps_left lines (step_after lines next) + 1 ≡ steps_left lines next
steps_left-after lines Close cap reach some = omega arith
steps_left-after lines SyncClosed cap reach some = omega arith
steps_left-after lines (Page k) cap reach some =
    elim (below_or_not lines (64 * (k + 2))) [
      | inl last ↦
          let after : steps_left lines (if nat_lt lines (64 * (k + 2)) then Header else Page (k + 1)) ≡ 4 = ap (λ (b : Bool). steps_left lines (if b then Header else Page (k + 1))) last.0 in
          omega (arith, after, last.1, cap.whole)
      | inr further ↦
          let after : steps_left lines (if nat_lt lines (64 * (k + 2)) then Header else Page (k + 1)) ≡ lines / 64 + 4 - (k + 1) = ap (λ (b : Bool). steps_left lines (if b then Header else Page (k + 1))) further.0 in
          omega (arith, after, further.1)
    ]
steps_left-after lines Header cap reach some = refl
steps_left-after lines SyncBody cap reach some = refl
steps_left-after lines Open cap reach some = refl
steps_left-after lines SyncOpen cap reach some = refl
steps_left-after lines Done cap reach some = absurd (omega (arith, some))

-- a step ends within the memory where the one before does
pub reach_after : (lines : ℕ) (next : Step) → IsCapacity lines → reach_of next ≤ lines → reach_of (step_after lines next) ≤ lines
reach_after lines next capacity reach = search rules

-- where no step is left, the save is done
pub no_steps_left : (lines : ℕ) (next : Step) → reach_of next ≤ lines → steps_left lines next ≡ 0 → next ≡ Done
no_steps_left lines Close reach none = absurd (omega (arith, none))
no_steps_left lines SyncClosed reach none = absurd (omega (arith, none))
no_steps_left lines Header reach none = absurd (omega (arith, none))
no_steps_left lines (Page k) reach none = absurd (omega (arith, none, reach))
no_steps_left lines SyncBody reach none = absurd (omega (arith, none))
no_steps_left lines Open reach none = absurd (omega (arith, none))
no_steps_left lines SyncOpen reach none = absurd (omega (arith, none))
no_steps_left lines Done reach none = refl

-- an element of a list, with those behind it
pub record ComesAt {X : Type 0} (xs : List X) (n : ℕ) (x : X) (behind : List X) : Type 0 where
  pub rest : drop (suc n) xs ≡ behind
  pub taken : take (suc n) xs ≡ take n xs ++ x ∷ []
  pub here : slice_get xs n ≡ Some x

pub comes_at : {X : Type 0} (xs : List X) (n : ℕ) (x : X) (behind : List X) → drop n xs ≡ x ∷ behind → ComesAt xs n x behind
comes_at [] zero x behind is = absurd (let bad : ⊥ = cc in bad)
comes_at [] (suc n) x behind is = absurd (let bad : ⊥ = cc in bad)
comes_at {X} (y ∷ ys) zero x behind is =
    let rest : ys ≡ behind = cc in let head : y ≡ x = cc in
    record { rest = rest; taken = ap (λ (z : X). z ∷ []) head; here = ap Some head }
comes_at {X} (y ∷ ys) (suc n) x behind is =
    let later : ComesAt ys n x behind = comes_at ys n x behind is in
    record { rest = later.rest; taken = ap (λ (zs : List X). y ∷ zs) later.taken; here = later.here }

-- The steps from one on: each ends within the memory, so many are left behind it, and what is left of a list that has one element
-- for each of them.
module _ (lines : ℕ) (capacity : IsCapacity lines) (first : Step) (reach : reach_of first ≤ lines) where
  pub reach_later : (n : ℕ) → reach_of (step_later lines first n) ≤ lines
  reach_later zero = reach
  reach_later (suc n) = reach_after lines (step_later lines first n) capacity (reach_later n)

  pub left_later : (n : ℕ) → n ≤ steps_left lines first → steps_left lines (step_later lines first n) + n ≡ steps_left lines first
  left_later zero most = omega arith
  left_later (suc n) most =
      let before : steps_left lines (step_later lines first n) + n ≡ steps_left lines first = left_later n (omega (arith, most)) in
      omega (arith, before, most, steps_left-after lines (step_later lines first n) capacity (reach_later n) (omega (arith, before, most)))

  pub drop_later : {X : Type 0} (of : Step → List X) (one : Step → X) → ((next : Step) → reach_of next ≤ lines → 0 < steps_left lines next → of next ≡ one next ∷ of (step_after lines next))
      → (n : ℕ) → n ≤ steps_left lines first → drop n (of first) ≡ of (step_later lines first n)
  drop_later of one goes zero most = refl
  drop_later {X} of one goes (suc n) most =
      let at : Step = step_later lines first n in
      let left : steps_left lines at + n ≡ steps_left lines first = left_later n (omega (arith, most)) in
      (comes_at (of first) n (one at) (of (step_after lines at)) (drop_later of one goes n (omega (arith, most)) ∙ goes at (reach_later n) (omega (arith, left, most)))).rest

-- the call of a page, and those behind it
page_call : (lines k : ℕ) → 64 * (k + 1) ≤ lines → page_calls lines k ≡ Write ∷ page_calls lines (k + 1)
page_call lines k reach = ap (λ (n : ℕ). replicate n Write ++ (Write ∷ Sync ∷ Write ∷ Sync ∷ [])) (let e : lines / 64 - k ≡ suc (lines / 64 - (k + 1)) = omega arith in e)

-- behind the last page
last_page : (lines k : ℕ) → lines < 64 * (k + 1) → page_calls lines k ≡ Write ∷ Sync ∷ Write ∷ Sync ∷ []
last_page lines k last = ap (λ (n : ℕ). replicate n Write ++ (Write ∷ Sync ∷ Write ∷ Sync ∷ [])) (let e : lines / 64 - k ≡ 0 = omega arith in e)

close_call : (plan : Plan) (closed : Bool) → call_of (if closed then Settle else Put (gate_of plan) (0 ∷ [])) ≡ (if closed then Sync else Write)
close_call plan true = refl
close_call plan false = refl

-- the call of a step, and those behind it
pub calls_left-after : (plan : Plan) (digest : List ℕ) (next : Step) (page : List ℕ) → reach_of next ≤ plan.lines → 0 < steps_left plan.lines next
    → calls_left plan.closed plan.lines next ≡ call_of (change_of plan digest next page) ∷ calls_left plan.closed plan.lines (step_after plan.lines next)
calls_left-after plan digest Close page reach some = ap (λ (kind : CallKind). kind ∷ calls_left plan.closed plan.lines SyncClosed) (sym (close_call plan plan.closed))
calls_left-after plan digest SyncClosed page reach some = refl
calls_left-after plan digest Header page reach some = refl
calls_left-after plan digest (Page k) page reach some =
    elim (below_or_not plan.lines (64 * (k + 2))) [
      | inl last ↦
          page_call plan.lines k reach ∙ ap (λ (calls : List CallKind). Write ∷ calls) (last_page plan.lines (k + 1) (omega (arith, last.1)))
          ∙ ap (λ (b : Bool). Write ∷ calls_left plan.closed plan.lines (if b then Header else Page (k + 1))) (sym last.0)
      | inr further ↦
          page_call plan.lines k reach
          ∙ ap (λ (b : Bool). Write ∷ calls_left plan.closed plan.lines (if b then Header else Page (k + 1))) (sym further.0)
    ]
calls_left-after plan digest SyncBody page reach some = refl
calls_left-after plan digest Open page reach some = refl
calls_left-after plan digest SyncOpen page reach some = refl
calls_left-after plan digest Done page reach some = absurd (omega (arith, some))
