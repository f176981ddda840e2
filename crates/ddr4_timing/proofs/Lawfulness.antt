-- When a list with one more command is lawful, by what a `Banks` keeps.
use Rattle.std.proofs.Common.{◌≡◌, ℕ, zero, suc, ◌+◌, ◌-◌, ◌*◌, ◌<◌, ◌≤◌, Bool, true, false, cond, eqb, List, [], ◌∷◌, ◌++◌, length, take, drop, Some, refl, ap, sym, subst, ◌∙◌, inl, inr, arith, add-one, max, count_by, ◌&&◌, ◌↔◌, slice_get}
use Rattle.std.proofs.lemmas.Bool.{cases_lt, cases_order, cases_Bool}
use Rattle.std.proofs.lemmas.List.{length_push, take-take}
use Rattle.std.proofs.lemmas.Option.{slice_get_within, same_Some}
use Rattle.std.proofs.lemmas.Grind.{common_steps}
use Rattle.std.proofs.Math.Seq.{take-append_seam}
use Rattle.ddr4_timing.proofs.Common.{AreInLimits, Command, Fault, Faw, Geometry, IsLawfulIn, IsLeastFault, KeepsGap, KeepsRefresh, KeepsRows, KeepsRule, MayComeNext, ObeysRule, Order, Refi, Rows, Rule, Stamped, Timing, every_rule, faw_gap, floor, gap, greatest, is_act, is_act_of, is_ref, largest, last_ref, least_clock, most_gap, pair_gap, rank_of, ref_count, rule_number, window}
use Rattle.ddr4_timing.proofs.RuleOrder.{rule_at}

-- the largest

largest_above : (f : Rule → ℕ) (rules : List Rule) (i : ℕ) (rule : Rule) → slice_get rules i ≡ Some rule → f rule ≤ largest f rules
largest_above f [] i rule s = absurd cc
largest_above f (r ∷ rules) zero rule s = let e : f r ≡ f rule = ap f (same_Some r rule s) in omega (arith, e)
largest_above f (r ∷ rules) (suc i) rule s = let e = largest_above f rules i rule s in omega (arith, e)

largest_below : (f : Rule → ℕ) (rules : List Rule) (d : ℕ) → ((rule : Rule) → f rule ≤ d) → largest f rules ≤ d
largest_below f [] d h = omega arith
largest_below f (r ∷ rules) d h = let e = largest_below f rules d h in let s = h r in omega (arith, e, s)

pair_gap-le : (t : Timing) (rule : Rule) (a b : Command) → pair_gap t rule a b ≤ most_gap t a b
unfolding most_gap
pair_gap-le t rule a b = largest_above (λ r. pair_gap t r a b) every_rule (rule_number rule - 1) rule (rule_at rule)

most_gap-le : (t : Timing) (a b : Command) (d : ℕ) → ((rule : Rule) → pair_gap t rule a b ≤ d) → most_gap t a b ≤ d
unfolding most_gap
most_gap-le t a b d h = largest_below (λ rule. pair_gap t rule a b) every_rule d h

pub most_gap_some : (t : Timing) (a b : Command) → 1 ≤ most_gap t a b
unfolding pair_gap
most_gap_some t a b = pair_gap-le t Order a b

-- the window's rule aside, what stands between two commands asks for nothing
gap_within : (t : Timing) (rule : Rule) (a : Command) (between : List Stamped) (b : Command) (d : ℕ) → faw_gap t a between b ≤ d → (gap t rule a between b ≤ d) ↔ (pair_gap t rule a b ≤ d)
unfolding gap pair_gap
gap_within t Faw a between b d faw = (λ h. omega arith, λ h. faw)
gap_within t rule a between b d faw = (λ h. h, λ h. h)

-- the greatest demand

drop_next : (a : Stamped) (list : List Stamped) (i : ℕ) → drop (suc i + 1) (a ∷ list) ≡ drop (i + 1) list
drop_next a list i = rw (add-one, add-one) refl

greatest_above : (f : Stamped → List Stamped → ℕ) (list : List Stamped) (i : ℕ) (a : Stamped) → slice_get list i ≡ Some a → f a (drop (i + 1) list) ≤ greatest f list
unfolding greatest
greatest_above f [] i a s = absurd cc
greatest_above f (b ∷ list) zero a s = let e : b ≡ a = cc in subst (λ (x : Stamped). f x list ≤ max (f b list) (greatest f list)) e (omega arith)
greatest_above f (b ∷ list) (suc i) a s =
    let e = greatest_above f list i a s in
    rw drop_next (omega (arith, e))

greatest_below : (f : Stamped → List Stamped → ℕ) (list : List Stamped) (d : ℕ) → ((i : ℕ) (a : Stamped) → slice_get list i ≡ Some a → f a (drop (i + 1) list) ≤ d) → greatest f list ≤ d
unfolding greatest
greatest_below f [] d h = omega arith
greatest_below f (b ∷ list) d h =
    let e = greatest_below f list d (λ i a s. rw (← drop_next b list i) (h (suc i) a s)) in
    let s = h 0 b refl in
    omega (arith, e, s)

-- the floor and the window, against the rules on two commands

abbrev pub KeepsGaps : Timing → List Stamped → Stamped → Type 0
KeepsGaps t list x = (rule : Rule) (i : ℕ) → KeepsGap t list x rule i

floor_from : (t : Timing) (list : List Stamped) (x : Stamped) → KeepsGaps t list x → floor t list x.cmd ≤ x.clock
unfolding floor gap
floor_from t list x h = greatest_below (λ a _. a.clock + most_gap t a.cmd x.cmd) list x.clock (λ i a s.
    let most = most_gap-le t a.cmd x.cmd (x.clock - a.clock) (λ rule. (gap_within t rule a.cmd (drop (i + 1) list) x.cmd (x.clock - a.clock) (h Faw i a s)).0 (h rule i a s)) in
    let some = most_gap_some t a.cmd x.cmd in
    omega (arith, most, some))

cond_within : (b : Bool) (v d : ℕ) → (cond b v 0 ≤ d) ↔ (b ≡ true → v ≤ d)
cond_within true v d = (λ h _. h, λ h. h refl)
cond_within false v d = (λ h e. absurd cc, λ h. omega arith)

window_from : (t : Timing) (list : List Stamped) (x : Stamped) → 1 ≤ t.t_faw → KeepsGaps t list x → is_act x.cmd ≡ true → window t (rank_of x.cmd) 3 list ≤ x.clock
unfolding window gap faw_gap
window_from t list x l h e = greatest_below (λ a later. cond (is_act_of (rank_of x.cmd) a.cmd && eqb (count_by (λ x'. is_act_of (rank_of x.cmd) x'.cmd) later) 3) (a.clock + t.t_faw) 0) list x.clock
    (λ i a s. (cond_within _ (a.clock + t.t_faw) x.clock).1 (λ p. let gap = (cond_within _ t.t_faw (x.clock - a.clock)).0 (rw e at (h Faw i a s)) p in omega (arith, gap)))

gaps_from : (t : Timing) (list : List Stamped) (x : Stamped) → floor t list x.cmd ≤ x.clock → (is_act x.cmd ≡ true → window t (rank_of x.cmd) 3 list ≤ x.clock) → KeepsGaps t list x
unfolding floor window faw_gap
gaps_from t list x h w rule i a s =
    let g = greatest_above (λ a _. a.clock + most_gap t a.cmd x.cmd) list i a s in
    let p = pair_gap-le t rule a.cmd x.cmd in
    let faw : faw_gap t a.cmd (drop (i + 1) list) x.cmd ≤ x.clock - a.clock = elim (cases_Bool (is_act x.cmd)) [
      | inl acts ↦
          let v = greatest_above (λ a later. cond (is_act_of (rank_of x.cmd) a.cmd && eqb (count_by (λ x'. is_act_of (rank_of x.cmd) x'.cmd) later) 3) (a.clock + t.t_faw) 0) list i a s in
          rw acts ((cond_within _ t.t_faw (x.clock - a.clock)).1 (λ p. let after = (cond_within _ (a.clock + t.t_faw) x.clock).0 (omega (arith, v, w acts)) p in omega (arith, after)))
      | inr rests ↦ rw rests (omega arith)
    ] in
    (gap_within t rule a.cmd (drop (i + 1) list) x.cmd (x.clock - a.clock) faw).1 (omega (arith, h, g, p))

-- the front of a list

pub slice_get_seam : (before : List Stamped) (x : Stamped) (after : List Stamped) → slice_get (before ++ x ∷ after) (length before) ≡ Some x
slice_get_seam [] x after = refl
slice_get_seam (y ∷ before) x after = slice_get_seam before x after

slice_get_take : (list : List Stamped) (n i : ℕ) → i < n → slice_get (take n list) i ≡ slice_get list i
slice_get_take [] (suc n) i h = refl
slice_get_take (x ∷ list) (suc n) zero h = refl
slice_get_take (x ∷ list) (suc n) (suc i) h = slice_get_take list n i (omega arith)
slice_get_take list n i h = absurd (omega arith)

-- where the front of a list is lawful, every rule holds of its places in the list
pub KeepsRule-front : (t : Timing) (g : Geometry) (list : List Stamped) (n : ℕ) → IsLawfulIn t g (take n list) → (rule : Rule) (first second : ℕ) → second < n → KeepsRule t g list rule first second
KeepsRule-front t g list n h rule first second l x s =
    subst (λ (before : List Stamped). ObeysRule t g before x rule first) (take-take second n list (omega arith)) (h rule first second x (slice_get_take list n second l ∙ s))

pub IsLawful-front : (t : Timing) (g : Geometry) (list : List Stamped) (n : ℕ) → ((rule : Rule) (first second : ℕ) → second < n → KeepsRule t g list rule first second) → IsLawfulIn t g (take n list)
IsLawful-front t g list n h rule first second x s =
    let within = slice_get_within (take n list) second x s in
    let below : second < n = grind (arith, common_steps) in
    subst (λ (before : List Stamped). ObeysRule t g before x rule first) (sym (take-take second n list (omega arith))) (h rule first second below x (sym (slice_get_take list n second below) ∙ s))

-- the front of a lawful list is lawful
pub IsLawful-take : (t : Timing) (g : Geometry) (list : List Stamped) (n : ℕ) → IsLawfulIn t g list → IsLawfulIn t g (take n list)
IsLawful-take t g list n h = IsLawful-front t g list n (λ rule first second _. h rule first second)

-- each command of a lawful list may come next after those before it
pub goes_in_turn : (t : Timing) (g : Geometry) (before : List Stamped) (x : Stamped) (after : List Stamped) → IsLawfulIn t g (before ++ x ∷ after) → MayComeNext t g before x
goes_in_turn t g before x after h rule first =
    subst (λ (front : List Stamped). ObeysRule t g front x rule first) (take-append_seam before (x ∷ after)) (h rule first (length before) x (slice_get_seam before x after))

pub admits_from : (t : Timing) (g : Geometry) (list : List Stamped) (x : Stamped) → IsLawfulIn t g (list ++ x ∷ []) → MayComeNext t g list x
admits_from t g list x h = goes_in_turn t g list x [] h

pub lawful_from : (t : Timing) (g : Geometry) (list : List Stamped) (x : Stamped) → IsLawfulIn t g list → MayComeNext t g list x → IsLawfulIn t g (list ++ x ∷ [])
lawful_from t g list x h a rule first second y s =
    let seam = take-append_seam list (x ∷ []) in
    elim (cases_lt second (length list)) [
      | inl l ↦ KeepsRule-front t g (list ++ x ∷ []) (length list) (rw seam h) rule first second l y s
      | inr g ↦
          let within = slice_get_within (list ++ x ∷ []) second y s in
          let e : second ≡ length list = grind (arith, length_push) in
          let same : y ≡ x = same_Some y x (sym s ∙ rw e (slice_get_seam list x [])) in
          rw (e, seam, same) (a rule first)
    ]

-- the whole

-- what a `Banks` can test
pub record IsReady (t : Timing) (g : Geometry) (list : List Stamped) (x : Stamped) : Type 0 where
  pub rows : KeepsRows g list x.cmd
  pub clock : least_clock t list x.cmd ≤ x.clock
  pub in_time : x.clock ≤ last_ref (rank_of x.cmd) list + 9 * t.t_refi

-- a command that is ready may come next
pub ready_next : (t : Timing) (g : Geometry) (list : List Stamped) (x : Stamped) → IsReady t g list x → MayComeNext t g list x
unfolding least_clock
ready_next t g list x r rule first = record {
  pair = gaps_from t list x (omega (arith, r.clock)) ((cond_within (is_act x.cmd) (window t (rank_of x.cmd) 3 list) x.clock).0 (omega (arith, r.clock))) rule first;
  rows = λ _ _. r.rows;
  refresh = λ _ _. record {
    in_time = omega (arith, r.in_time);
    not_early = (cond_within (is_ref x.cmd) ((ref_count (rank_of x.cmd) list + 1) * t.t_refi) x.clock).0 (omega (arith, r.clock));
  };
}

pub next_ready : (t : Timing) (g : Geometry) → AreInLimits t → (list : List Stamped) (x : Stamped) → MayComeNext t g list x → IsReady t g list x
unfolding least_clock
next_ready t g limits list x h =
    let gaps : KeepsGaps t list x = λ rule i. (h rule i).pair in
    let refresh : KeepsRefresh t list x = (h Refi (length list)).refresh refl refl in
    let floor = floor_from t list x gaps in
    let acts = (cond_within (is_act x.cmd) (window t (rank_of x.cmd) 3 list) x.clock).1 (window_from t list x limits.t_faw.0 gaps) in
    let refs = (cond_within (is_ref x.cmd) ((ref_count (rank_of x.cmd) list + 1) * t.t_refi) x.clock).1 refresh.not_early in
    record {
      rows = (h Rows (length list)).rows refl refl;
      clock = omega (arith, floor, acts, refs);
      in_time = omega (arith, refresh.in_time);
    }

-- from a lawful list, with one more command
pub lawful_ready : (t : Timing) (g : Geometry) (list : List Stamped) (x : Stamped) → IsLawfulIn t g list → IsReady t g list x → IsLawfulIn t g (list ++ x ∷ [])
lawful_ready t g list x h r = lawful_from t g list x h (ready_next t g list x r)

pub ready_lawful : (t : Timing) (g : Geometry) → AreInLimits t → (list : List Stamped) (x : Stamped) → IsLawfulIn t g (list ++ x ∷ []) → IsReady t g list x
ready_lawful t g limits list x lawful = next_ready t g limits list x (admits_from t g list x lawful)

pub refresh_lawful : (t : Timing) (g : Geometry) (list : List Stamped) (x : Stamped) → IsLawfulIn t g (list ++ x ∷ []) → KeepsRefresh t list x
refresh_lawful t g list x h = (admits_from t g list x h Refi (length list)).refresh refl refl

-- the first fault of a list stands where its lawful front ends
pub fault_index : (t : Timing) (g : Geometry) (list : List Stamped) (i : ℕ) (f : Fault) → IsLawfulIn t g (take i list) → (IsLawfulIn t g (take (i + 1) list) → ⊥) → IsLeastFault t g list f → f.second ≡ i
fault_index t g list i f l n r =
    elim (cases_order f.second i) [
      | inl same ↦ same
      | inr (inl below) ↦ absurd (r.broken (KeepsRule-front t g list i l f.rule f.first f.second below))
      | inr (inr over) ↦ absurd (n (IsLawful-front t g list (i + 1) (λ rule first second s. r.first rule first second (omega arith, λ e. absurd (omega arith)))))
    ]
