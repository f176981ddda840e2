-- What one more command does to the counts of refreshes and to the clocks by which a rank is due.
use Rattle.std.proofs.Common.{◌≡◌, ◌≢◌, ℕ, zero, suc, ◌+◌, ◌*◌, ◌≤◌, ◌<◌, Bool, false, cond, List, [], ◌∷◌, ◌++◌, inl, inr, arith, ap, ◌∙◌, refl, add-zero, ne_eqb}
use Rattle.std.proofs.lemmas.List.Sums.{fold_push}
use Rattle.std.proofs.lemmas.Bool.{cases_lt, eq-eqb}
use Rattle.frfcfs.proofs.Common.{Act, Checked, Command, Ref, Stamped, Timing, above, commands_before, is_act_of, is_ref_of, last_clock, last_ref, lead_clock, rank_of, ref_count, with_command}
use Rattle.ddr4_timing.proofs.FloorLemmas.{last_ref_push, ref_count_push}

-- how many ranks had more refreshes, as they go on

above_more : (f g : ℕ → ℕ) (m n : ℕ) → ((k : ℕ) → f k ≤ g k) → above f m n ≤ above g m n
unfolding above
above_more f g m zero h = omega arith
above_more f g m (suc n) h = grind (arith, above_more f g m n h, h n)

above_new : (f g : ℕ → ℕ) (m n i : ℕ) → ((k : ℕ) → f k ≤ g k) → i < n → f i ≤ m → m < g i → above f m n + 1 ≤ above g m n
unfolding above
above_new f g m zero i h l a b = absurd (omega arith)
above_new f g m (suc n) i h l a b =
    elim (cases_lt i n) [
      | inl q ↦ grind (arith, above_new f g m n i h q a b, h n)
      | inr q ↦ let same : i ≡ n = omega arith in grind (arith, above_more f g m n h, same, a, b)
    ]

above_all : (f : ℕ → ℕ) (m n : ℕ) → above (λ k. f k + m + 1) m n ≡ n
unfolding above
above_all f m zero = refl
above_all f m (suc n) = grind (arith, above_all f m n)

-- the rank itself is none of those that had more
pub commands_before-lt : (c : Checked) (list : List Stamped) (rank : ℕ) → rank < c.geometry.ranks → commands_before c list rank + 2 ≤ 2 * c.geometry.ranks
commands_before-lt c list rank h =
    let f = λ (other : ℕ). ref_count other list in
    let m = ref_count rank list in
    omega (arith, h, above_new f (λ k. f k + m + 1) m c.geometry.ranks rank (λ k. omega arith) h (omega arith) (omega arith), above_all f m c.geometry.ranks)

-- a command of another rank is no REF and no ACT of this one
pub ref_of_other : (rank : ℕ) (x : Command) → rank_of x ≢ rank → is_ref_of rank x ≡ false
ref_of_other rank (Ref r) n = ne_eqb r rank n
ref_of_other rank x n = refl

pub act_of_other : (rank : ℕ) (x : Command) → rank_of x ≢ rank → is_act_of rank x ≡ false
act_of_other rank (Act at w) n = ne_eqb at.rank rank n
act_of_other rank x n = refl

pub count_same : (rank k : ℕ) (list : List Stamped) (x : Command) → is_ref_of rank x ≡ false → ref_count rank (with_command list k x) ≡ ref_count rank list
count_same rank k list x e = ref_count_push rank list (record { clock = k; cmd = x }) ∙ ap (λ (b : Bool). ref_count rank list + cond b 1 0) e ∙ add-zero (ref_count rank list)

pub count_next : (rank k : ℕ) (list : List Stamped) → ref_count rank (with_command list k (Ref rank)) ≡ ref_count rank list + 1
count_next rank k list = ref_count_push rank list (record { clock = k; cmd = Ref rank }) ∙ ap (λ (b : Bool). ref_count rank list + cond b 1 0) (eq-eqb rank rank refl)

count_more : (rank k : ℕ) (list : List Stamped) (x : Command) → ref_count rank list ≤ ref_count rank (with_command list k x)
count_more rank k list x = let e = ref_count_push rank list (record { clock = k; cmd = x }) in omega (arith, e)

pub last_clock_push : (list : List Stamped) (x : Stamped) → last_clock (list ++ x ∷ []) ≡ x.clock
unfolding last_clock
last_clock_push list x = fold_push (λ last y. y.clock) 0 list x

pub last_same : (rank k : ℕ) (list : List Stamped) (x : Command) → is_ref_of rank x ≡ false → last_ref rank (with_command list k x) ≡ last_ref rank list
last_same rank k list x e = last_ref_push rank list (record { clock = k; cmd = x }) ∙ ap (λ (b : Bool). cond b k (last_ref rank list)) e

pub last_next : (rank k : ℕ) (list : List Stamped) → last_ref rank (with_command list k (Ref rank)) ≡ k
last_next rank k list = last_ref_push rank list (record { clock = k; cmd = Ref rank }) ∙ ap (λ (b : Bool). cond b k (last_ref rank list)) (eq-eqb rank rank refl)

pub lead_same : (t : Timing) (rank k : ℕ) (list : List Stamped) (x : Command) → is_ref_of rank x ≡ false → lead_clock t (with_command list k x) rank ≡ lead_clock t list rank
lead_same t rank k list x e = ap (λ (n : ℕ). (n + 8) * t.t_refi) (count_same rank k list x e)

pub before_more : (c : Checked) (rank k : ℕ) (list : List Stamped) (x : Command) → is_ref_of rank x ≡ false → commands_before c list rank ≤ commands_before c (with_command list k x) rank
before_more c rank k list x e =
    let m = above_more (λ other. ref_count other list) (λ other. ref_count other (with_command list k x)) (ref_count rank list) c.geometry.ranks (λ r. count_more r k list x) in
    rw (count_same rank k list x e) (omega (arith, m))

-- a rank that had as many refreshes goes ahead by one
pub before_next : (c : Checked) (rank other k : ℕ) (list : List Stamped) → other ≢ rank → other < c.geometry.ranks → ref_count other list ≡ ref_count rank list →
    commands_before c list rank + 1 ≤ commands_before c (with_command list k (Ref other)) rank
before_next c rank other k list n l e =
    let next = count_next other k list in
    let m = above_new (λ r. ref_count r list) (λ r. ref_count r (with_command list k (Ref other))) (ref_count rank list) c.geometry.ranks other (λ r. count_more r k list (Ref other)) l (omega (arith, e)) (omega (arith, e, next)) in
    rw (count_same rank k list (Ref other) (ref_of_other rank (Ref other) n)) (omega (arith, m))
