-- What one more command does to the floors, the windows and the rows.
use Rattle.std.proofs.Common.{◌≡◌, ℕ, ◌+◌, Bool, true, false, cond, eqb, List, [], ◌∷◌, ◌++◌, None, refl, ap, ◌∙◌, arith, add-zero, max, count_by, ◌||◌}
use Rattle.std.proofs.lemmas.Bool.{ne_eqb}
use Rattle.std.proofs.Math.Bool.{and-false, or-false}
use Rattle.std.proofs.lemmas.List.Sums.{fold_push}
use Rattle.std.proofs.lemmas.Bool.Decides.{nat_tests}
use Rattle.std.proofs.lemmas.List.Folds.{list_any-append}
use Rattle.ddr4_timing.proofs.Common.{Act, BankAddress, Command, Rd, Stamped, Timing, Wr, floor, greatest, is_act_of, is_asleep, is_ref_of, is_sre_of, last_ref, most_gap, open_row, pair_gap, ref_count, row_after, window}

-- a demand that doesn't look at what is behind
pub greatest_push : (f : Stamped → ℕ) (list : List Stamped) (x : Stamped) → greatest (λ a _. f a) (list ++ x ∷ []) ≡ max (greatest (λ a _. f a) list) (f x)
unfolding greatest
greatest_push f [] x = omega arith
greatest_push f (a ∷ list) x = let h = greatest_push f list x in omega (arith, h)

pub floor_push : (t : Timing) (list : List Stamped) (x : Stamped) (b : Command) → floor t (list ++ x ∷ []) b ≡ max (floor t list b) (x.clock + most_gap t x.cmd b)
unfolding floor
floor_push t list x b = greatest_push (λ a. a.clock + most_gap t a.cmd b) list x

pub open_row_push : (bank : BankAddress) (list : List Stamped) (x : Stamped) → open_row bank (list ++ x ∷ []) ≡ row_after bank (open_row bank list) x.cmd
unfolding open_row
open_row_push bank list x = fold_push (λ row x. row_after bank row x.cmd) None list x

count_push : (p : Stamped → Bool) (list : List Stamped) (x : Stamped) → count_by p (list ++ x ∷ []) ≡ count_by p list + cond (p x) 1 0
count_push p list x = fold_push (λ n x. n + cond (p x) 1 0) 0 list x

eqb_next : (k n : ℕ) → eqb (k + 1) (n + 1) ≡ eqb k n
eqb_next k n = grind (arith, nat_tests)

pub window-yes : (t : Timing) (rank n : ℕ) (list : List Stamped) (x : Stamped) → is_act_of rank x.cmd ≡ true → window t rank (n + 1) (list ++ x ∷ []) ≡ window t rank n list
unfolding window greatest
window-yes t rank n [] x e = rw (e, ne_eqb 0 (n + 1) (λ q. omega arith)) refl
window-yes t rank n (a ∷ list) x e =
    let h = window-yes t rank n list x e in
    simp (count_push (λ y. is_act_of rank y.cmd) list x, e, eqb_next, h) refl

pub window-first : (t : Timing) (rank : ℕ) (list : List Stamped) (x : Stamped) → is_act_of rank x.cmd ≡ true → window t rank 0 (list ++ x ∷ []) ≡ x.clock + t.t_faw
unfolding window greatest
window-first t rank [] x e = rw e (omega arith)
window-first t rank (a ∷ list) x e =
    let h = window-first t rank list x e in
    simp (count_push (λ y. is_act_of rank y.cmd) list x, e, ne_eqb (count_by (λ y. is_act_of rank y.cmd) list + 1) 0 (λ q. omega arith), and-false, h) (omega arith)

pub window-no : (t : Timing) (rank n : ℕ) (list : List Stamped) (x : Stamped) → is_act_of rank x.cmd ≡ false → window t rank n (list ++ x ∷ []) ≡ window t rank n list
unfolding window greatest
window-no t rank n [] x e = rw e refl
window-no t rank n (a ∷ list) x e =
    let h = window-no t rank n list x e in
    simp (count_push (λ y. is_act_of rank y.cmd) list x, e, add-zero, h) refl

pub last_ref_push : (rank : ℕ) (list : List Stamped) (x : Stamped) → last_ref rank (list ++ x ∷ []) ≡ cond (is_ref_of rank x.cmd) x.clock (last_ref rank list)
unfolding last_ref
last_ref_push rank list x = fold_push (λ last x. cond (is_ref_of rank x.cmd) x.clock last) 0 list x

pub ref_count_push : (rank : ℕ) (list : List Stamped) (x : Stamped) → ref_count rank (list ++ x ∷ []) ≡ ref_count rank list + cond (is_ref_of rank x.cmd) 1 0
unfolding ref_count
ref_count_push rank list x = count_push (λ x. is_ref_of rank x.cmd) list x

pub is_asleep_push : (rank : ℕ) (list : List Stamped) (x : Stamped) → is_asleep rank (list ++ x ∷ []) ≡ (is_asleep rank list || is_sre_of rank x.cmd)
unfolding is_asleep
is_asleep_push rank list x = list_any-append (λ x. is_sre_of rank x.cmd) list (x ∷ []) ∙ ap (λ b. is_asleep rank list || b) (or-false _)

-- no rule on two commands looks at a row or a column
pub floor-Act : (t : Timing) (list : List Stamped) (bank : BankAddress) (row : ℕ) → floor t list (Act bank row) ≡ floor t list (Act bank 0)
unfolding floor most_gap pair_gap
floor-Act t list bank row = refl

pub floor-Rd : (t : Timing) (list : List Stamped) (bank : BankAddress) (column : ℕ) → floor t list (Rd bank column) ≡ floor t list (Rd bank 0)
unfolding floor most_gap pair_gap
floor-Rd t list bank column = refl

pub floor-Wr : (t : Timing) (list : List Stamped) (bank : BankAddress) (column : ℕ) → floor t list (Wr bank column) ≡ floor t list (Wr bank 0)
unfolding floor most_gap pair_gap
floor-Wr t list bank column = refl
