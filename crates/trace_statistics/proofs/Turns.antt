-- The margins of a list with one more command.
use Rattle.std.proofs.Common.{◌≡◌, ◌∙◌, ℕ, ◌+◌, ◌-◌, ◌*◌, ◌==◌, not, if◌then◌else◌, Bool, true, false, cond, eqb, List, [], ◌∷◌, ◌++◌, append-nil, append_assoc, max, Option, None, Some, ap, refl, sym, subst, arith}
use Rattle.std.proofs.lemmas.Bool.{eq-eqb}
use Rattle.std.proofs.lemmas.List.Sums.{fold_push}
use Rattle.ddr4_timing.proofs.FloorLemmas.{last_ref_push, ref_count_push, window-first, window-no, window-yes}
use Rattle.ddr4_timing.specs.Command.{is_act_of, is_ref_of, rank_of}
use Rattle.ddr4_timing.specs.Floors.{window}
use Rattle.ddr4_timing.specs.Lawful.{last_ref, ref_count}
use Rattle.ddr4_timing.specs.TimingState.{WindowStands}
use Rattle.ddr4_timing.specs.declared.command.Stamped.{Stamped}
use Rattle.ddr4_timing.specs.declared.rank.Window.{Window}
use Rattle.ddr4_timing.specs.declared.timing.Timing.{Timing}
use Rattle.trace_statistics.specs.declared.margins.RankMargins.{RankMargins}
use Rattle.trace_statistics.specs.Margins.{Turn, distance, greatest_of, least_of, lesser, refresh_margin, turns, turns_behind, window_margin}
use Rattle.trace_statistics.specs.MarginsStanding.{IsActivated, IsRefreshed, MarginsStand}

behind_more : (before list : List Stamped) (x : Stamped) → turns_behind before (list ++ x ∷ []) ≡ turns_behind before list ++ record { before = before ++ list; next = x } ∷ []
behind_more before [] x = ap (λ (l : List Stamped). record { before = l; next = x } ∷ []) (sym (append-nil before))
behind_more before (y ∷ list) x =
    ap (λ (l : List Turn). record { before = before; next = y } ∷ l)
    (behind_more (before ++ y ∷ []) list x ∙ ap (λ (l : List Stamped). turns_behind (before ++ y ∷ []) list ++ record { before = l; next = x } ∷ []) (append_assoc before (y ∷ []) list))

pub turns_more : (list : List Stamped) (x : Stamped) → turns (list ++ x ∷ []) ≡ turns list ++ record { before = list; next = x } ∷ []
unfolding turns
turns_more list x = behind_more [] list x

pub greatest_more : (gives : Turn → ℕ) (list : List Stamped) (x : Stamped) → greatest_of gives (list ++ x ∷ []) ≡ max (greatest_of gives list) (gives (record { before = list; next = x }))
greatest_more gives list x = rw (turns_more list x) (fold_push (λ most y. max most (gives y)) 0 (turns list) (record { before = list; next = x }))

pub least_more : (gives : Turn → Option ℕ) (list : List Stamped) (x : Stamped) → least_of gives (list ++ x ∷ []) ≡ lesser (least_of gives list) (gives (record { before = list; next = x }))
least_more gives list x = rw (turns_more list x) (fold_push (λ least y. lesser least (gives y)) None (turns list) (record { before = list; next = x }))

lesser_none : (m : Option ℕ) → lesser m None ≡ m
lesser_none None = refl
lesser_none (Some n) = refl

-- What a command of the rank gives, by whether it is a REF or an ACT.
distance_at : (rank : ℕ) (list : List Stamped) (x : Stamped) → is_ref_of rank x.cmd ≡ true → distance rank (record { before = list; next = x }) ≡ x.clock - last_ref rank list
distance_at rank list x is = rw is refl

distance_no : (rank : ℕ) (list : List Stamped) (x : Stamped) → is_ref_of rank x.cmd ≡ false → distance rank (record { before = list; next = x }) ≡ 0
distance_no rank list x is = rw is refl

refresh_at : (t : Timing) (rank : ℕ) (list : List Stamped) (x : Stamped) → rank_of x.cmd ≡ rank
    → refresh_margin t rank (record { before = list; next = x }) ≡ Some (last_ref rank list + 9 * t.t_refi - x.clock)
refresh_at t rank list x of = rw (eq-eqb (rank_of x.cmd) rank of) refl

window_none : (t : Timing) (rank : ℕ) (list : List Stamped) (x : Stamped) → is_act_of rank x.cmd ≡ false → window_margin t rank (record { before = list; next = x }) ≡ None
window_none t rank list x is = rw is refl

-- at an ACT, by the end of the window that it closes
window_at : (t : Timing) (rank : ℕ) (list : List Stamped) (x : Stamped) (end : ℕ) (least : Option ℕ) → is_act_of rank x.cmd ≡ true → end ≡ window t rank 3 list
    → (if end == 0 then least else lesser least (Some (x.clock - end))) ≡ lesser least (window_margin t rank (record { before = list; next = x }))
window_at t rank list x end least is e =
    rw (is, ← e) (elim (eqb end 0) as (λ (b : Bool). cond b least (lesser least (Some (x.clock - end))) ≡ lesser least (cond (not b) (Some (x.clock - end)) None)) [
      | true ↦ sym (lesser_none least)
      | false ↦ refl
    ])

refresh_more : (t : Timing) (rank : ℕ) (list : List Stamped) (x : Stamped) (old new : Option ℕ) (deadline : ℕ) → rank_of x.cmd ≡ rank → deadline ≡ last_ref rank list + 9 * t.t_refi
    → old ≡ least_of (refresh_margin t rank) list → new ≡ lesser old (Some (deadline - x.clock)) → new ≡ least_of (refresh_margin t rank) (list ++ x ∷ [])
refresh_more t rank list x old new deadline of end was is =
    is ∙ ap (λ (n : ℕ). lesser old (Some (n - x.clock))) end ∙ ap (λ (o : Option ℕ). lesser o (Some (last_ref rank list + 9 * t.t_refi - x.clock))) was
    ∙ ap (λ (o : Option ℕ). lesser (least_of (refresh_margin t rank) list) o) (sym (refresh_at t rank list x of)) ∙ sym (least_more (refresh_margin t rank) list x)

windows_stay : (t : Timing) (rank : ℕ) (list : List Stamped) (x : Stamped) (w : Window) → is_act_of rank x.cmd ≡ false → WindowStands t rank list w → WindowStands t rank (list ++ x ∷ []) w
windows_stay t rank list x w isnt s = record {
  fourth = s.fourth ∙ sym (window-no t rank 3 list x isnt);
  third = s.third ∙ sym (window-no t rank 2 list x isnt);
  second = s.second ∙ sym (window-no t rank 1 list x isnt);
  last = s.last ∙ sym (window-no t rank 0 list x isnt);
}

window_stays : (t : Timing) (rank : ℕ) (list : List Stamped) (x : Stamped) (m : Option ℕ) → is_act_of rank x.cmd ≡ false → m ≡ least_of (window_margin t rank) list
    → m ≡ least_of (window_margin t rank) (list ++ x ∷ [])
window_stays t rank list x m isnt was =
    was ∙ sym (least_more (window_margin t rank) list x ∙ ap (λ (o : Option ℕ). lesser (least_of (window_margin t rank) list) o) (window_none t rank list x isnt) ∙ lesser_none _)

longest_stays : (rank : ℕ) (list : List Stamped) (x : Stamped) (n : ℕ) → is_ref_of rank x.cmd ≡ false → n ≡ greatest_of (distance rank) list → n ≡ greatest_of (distance rank) (list ++ x ∷ [])
longest_stays rank list x n isnt was =
    let more = greatest_more (distance rank) list x in
    let none = distance_no rank list x isnt in
    omega (arith, was, more, none)

-- a REF of the rank
pub margins_at_ref : (t : Timing) (rank : ℕ) (list : List Stamped) (x : Stamped) (old mid new : RankMargins) → rank_of x.cmd ≡ rank → is_ref_of rank x.cmd ≡ true → is_act_of rank x.cmd ≡ false
    → mid ≡ record old { margins = record old.margins { refresh = lesser old.margins.refresh (Some (old.deadline - x.clock)) } } → IsRefreshed t x.clock mid new
    → MarginsStand t rank list old → MarginsStand t rank (list ++ x ∷ []) new
margins_at_ref t rank list x old mid new of is isnt set goes s =
    let last : last_ref rank (list ++ x ∷ []) ≡ x.clock = last_ref_push rank list x ∙ rw is refl in
    let count : ref_count rank (list ++ x ∷ []) ≡ ref_count rank list + 1 = ref_count_push rank list x ∙ rw is refl in
    let more = greatest_more (distance rank) list x in
    let far = distance_at rank list x is in
    record {
      margins = record {
        refreshes = let q : mid.margins.refreshes ≡ old.margins.refreshes = ap (λ (r : RankMargins). r.margins.refreshes) set in omega (arith, goes.refreshes, q, s.margins.refreshes, count);
        last = goes.last ∙ sym last;
        longest =
            let q : mid.margins.longest ≡ old.margins.longest = ap (λ (r : RankMargins). r.margins.longest) set in
            let l : mid.margins.last ≡ old.margins.last = ap (λ (r : RankMargins). r.margins.last) set in
            omega (arith, goes.longest, q, l, s.margins.longest, s.margins.last, more, far);
        refresh = refresh_more t rank list x old.margins.refresh new.margins.refresh old.deadline of s.deadline s.margins.refresh (goes.refresh ∙ ap (λ (r : RankMargins). r.margins.refresh) set);
        window = window_stays t rank list x _ isnt (goes.window ∙ ap (λ (r : RankMargins). r.margins.window) set ∙ s.margins.window);
      };
      deadline = goes.deadline ∙ ap (λ (n : ℕ). n + 9 * t.t_refi) (sym last);
      ends = windows_stay t rank list x _ isnt (subst (λ (w : Window). WindowStands t rank list w) (sym (goes.ends ∙ ap (λ (r : RankMargins). r.ends) set)) s.ends);
    }

-- an ACT of the rank
pub margins_at_act : (t : Timing) (rank : ℕ) (list : List Stamped) (x : Stamped) (old mid new : RankMargins) → rank_of x.cmd ≡ rank → is_ref_of rank x.cmd ≡ false → is_act_of rank x.cmd ≡ true
    → mid ≡ record old { margins = record old.margins { refresh = lesser old.margins.refresh (Some (old.deadline - x.clock)) } } → IsActivated t x.clock mid new
    → MarginsStand t rank list old → MarginsStand t rank (list ++ x ∷ []) new
margins_at_act t rank list x old mid new of isnt is set goes s =
    let last : last_ref rank (list ++ x ∷ []) ≡ last_ref rank list = last_ref_push rank list x ∙ rw isnt refl in
    let count : ref_count rank (list ++ x ∷ []) ≡ ref_count rank list + 0 = ref_count_push rank list x ∙ rw isnt refl in
    record {
      margins = record {
        refreshes = let q : mid.margins.refreshes ≡ old.margins.refreshes = ap (λ (r : RankMargins). r.margins.refreshes) set in omega (arith, goes.refreshes, q, s.margins.refreshes, count);
        last = goes.last_refresh ∙ ap (λ (r : RankMargins). r.margins.last) set ∙ s.margins.last ∙ sym last;
        longest = longest_stays rank list x _ isnt (goes.longest ∙ ap (λ (r : RankMargins). r.margins.longest) set ∙ s.margins.longest);
        refresh = refresh_more t rank list x old.margins.refresh new.margins.refresh old.deadline of s.deadline s.margins.refresh (goes.refresh ∙ ap (λ (r : RankMargins). r.margins.refresh) set);
        window =
            goes.window ∙ ap (λ (r : RankMargins). if r.ends.fourth == 0 then r.margins.window else lesser r.margins.window (Some (x.clock - r.ends.fourth))) set
            ∙ window_at t rank list x old.ends.fourth old.margins.window is s.ends.fourth
            ∙ ap (λ (o : Option ℕ). lesser o (window_margin t rank (record { before = list; next = x }))) s.margins.window ∙ sym (least_more (window_margin t rank) list x);
      };
      deadline = goes.deadline ∙ ap (λ (r : RankMargins). r.deadline) set ∙ s.deadline ∙ ap (λ (n : ℕ). n + 9 * t.t_refi) (sym last);
      ends = record {
        fourth = goes.fourth ∙ ap (λ (r : RankMargins). r.ends.third) set ∙ s.ends.third ∙ sym (window-yes t rank 2 list x is);
        third = goes.third ∙ ap (λ (r : RankMargins). r.ends.second) set ∙ s.ends.second ∙ sym (window-yes t rank 1 list x is);
        second = goes.second ∙ ap (λ (r : RankMargins). r.ends.last) set ∙ s.ends.last ∙ sym (window-yes t rank 0 list x is);
        last = goes.last ∙ sym (window-first t rank list x is);
      };
    }

-- any other command of the rank
pub margins_at_other : (t : Timing) (rank : ℕ) (list : List Stamped) (x : Stamped) (old new : RankMargins) → rank_of x.cmd ≡ rank → is_ref_of rank x.cmd ≡ false → is_act_of rank x.cmd ≡ false
    → new ≡ record old { margins = record old.margins { refresh = lesser old.margins.refresh (Some (old.deadline - x.clock)) } }
    → MarginsStand t rank list old → MarginsStand t rank (list ++ x ∷ []) new
margins_at_other t rank list x old new of isnt nor set s =
    let last : last_ref rank (list ++ x ∷ []) ≡ last_ref rank list = last_ref_push rank list x ∙ rw isnt refl in
    let count : ref_count rank (list ++ x ∷ []) ≡ ref_count rank list + 0 = ref_count_push rank list x ∙ rw isnt refl in
    record {
      margins = record {
        refreshes = let q : new.margins.refreshes ≡ old.margins.refreshes = ap (λ (r : RankMargins). r.margins.refreshes) set in omega (arith, q, s.margins.refreshes, count);
        last = ap (λ (r : RankMargins). r.margins.last) set ∙ s.margins.last ∙ sym last;
        longest = longest_stays rank list x _ isnt (ap (λ (r : RankMargins). r.margins.longest) set ∙ s.margins.longest);
        refresh = refresh_more t rank list x old.margins.refresh new.margins.refresh old.deadline of s.deadline s.margins.refresh (ap (λ (r : RankMargins). r.margins.refresh) set);
        window = window_stays t rank list x _ nor (ap (λ (r : RankMargins). r.margins.window) set ∙ s.margins.window);
      };
      deadline = ap (λ (r : RankMargins). r.deadline) set ∙ s.deadline ∙ ap (λ (n : ℕ). n + 9 * t.t_refi) (sym last);
      ends = windows_stay t rank list x _ nor (subst (λ (w : Window). WindowStands t rank list w) (sym (ap (λ (r : RankMargins). r.ends) set)) s.ends);
    }

-- a command of another rank leaves them
pub margins_apart : (t : Timing) (rank : ℕ) (list : List Stamped) (x : Stamped) (r : RankMargins) → (rank_of x.cmd == rank) ≡ false → is_ref_of rank x.cmd ≡ false → is_act_of rank x.cmd ≡ false
    → MarginsStand t rank list r → MarginsStand t rank (list ++ x ∷ []) r
margins_apart t rank list x r other isnt nor s =
    let last : last_ref rank (list ++ x ∷ []) ≡ last_ref rank list = last_ref_push rank list x ∙ rw isnt refl in
    let count : ref_count rank (list ++ x ∷ []) ≡ ref_count rank list + 0 = ref_count_push rank list x ∙ rw isnt refl in
    let none : refresh_margin t rank (record { before = list; next = x }) ≡ None = rw other refl in
    record {
      margins = record {
        refreshes = omega (arith, s.margins.refreshes, count);
        last = s.margins.last ∙ sym last;
        longest = longest_stays rank list x _ isnt s.margins.longest;
        refresh =
            s.margins.refresh ∙ sym (least_more (refresh_margin t rank) list x ∙ ap (λ (o : Option ℕ). lesser (least_of (refresh_margin t rank) list) o) none ∙ lesser_none _);
        window = window_stays t rank list x _ nor s.margins.window;
      };
      deadline = s.deadline ∙ ap (λ (n : ℕ). n + 9 * t.t_refi) (sym last);
      ends = windows_stay t rank list x _ nor s.ends;
    }
