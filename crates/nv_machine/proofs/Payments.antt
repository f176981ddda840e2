-- Payments in turn, and what they come to.
use Rattle.std.proofs.Common.{cond}
use Rattle.std.specs.Prelude.{count_by, nat_lt, sum_by, ◌==◌}
use Rattle.std.proofs.lemmas.Bool.Decides.{nat_tests}
use Rattle.std.proofs.lemmas.List.Sums.{count_by-le-length, sum_by-append, sum_by-cons, sum_by_more_le}
use Rattle.std.proofs.lemmas.Option.{get_or_from_slice_get}
use Rattle.channel_port.specs.Draining.{Paid, PaysCosts}
use Rattle.channel_port.specs.Waits.{writes_on}
use Rattle.channel_port.specs.declared.waiting.Waiting.{Waiting}
use Rattle.nv_machine.proofs.Common.{List, [], arith, inr, length, refl, subst, suc, take, zero, ℕ, ◌++◌, ◌+◌, ◌∙◌, ◌∷◌, ◌≡◌, ◌≤◌, Err, Ok, Some, slice_get, sum, length-append, slice_get_within, Gauge, pending_each}

-- The leak stays and faults are counted, and where none is, the level has fallen by what was paid.
pub record IsPaid (costs : List ℕ) (old new : Gauge) : Type 0 where
  pub counted : old.faults ≤ new.faults
  pub same_leak : new.leak ≡ old.leak
  pub fell : new.faults ≡ old.faults → old.level ≤ new.level + sum costs

pub paid_of : (costs : List ℕ) (old new : Gauge) → PaysCosts costs old (Ok tt) new → IsPaid costs old new
paid_of [] old new pays = rw pays (record { counted = omega arith; same_leak = refl; fell = λ same. omega arith })
paid_of (c ∷ rest) old new pays =
    let then_paid : IsPaid rest pays.0 new = paid_of rest pays.0 new pays.2 in
    record {
      counted = omega (arith, pays.1.counted, then_paid.counted);
      same_leak = then_paid.same_leak ∙ pays.1.same_leak;
      fell = λ same.
          let kept = pays.1.breach.0 (omega (arith, pays.1.counted, then_paid.counted, same)) in
          omega (arith, kept.falls, then_paid.fell (omega (arith, pays.1.counted, then_paid.counted, same)), sum_by-cons (λ x. x) c rest);
    }

-- those of a list before one of it, and that one, cost no more than all
pub cost_until : {X : Type 0} (f : X → ℕ) (xs : List X) (place : ℕ) (x : X) → slice_get xs place ≡ Some x → sum_by f (take place xs) + f x ≤ sum_by f xs
cost_until f xs place x is =
    rw (get_or_from_slice_get xs place x x is) at (sum_by_more_le f xs place x (slice_get_within xs place x is))

-- payments of two lists
pub pays_append : (xs ys : List ℕ) (old mid : Gauge) (result : Paid) (new : Gauge) → PaysCosts xs old (Ok tt) mid → PaysCosts ys mid result new → PaysCosts (xs ++ ys) old result new
pays_append [] ys old mid result new one two = subst (λ (g : Gauge). PaysCosts ys g result new) one two
pays_append (c ∷ xs) ys old mid (Ok done) new one two = (one.0, one.1, pays_append xs ys one.0 mid (Ok done) new one.2 two)
pays_append (c ∷ xs) ys old mid (Err dark) new one two = inr (one.0, one.1, pays_append xs ys one.0 mid (Err dark) new one.2 two)

-- how many writes wait in the first channels
pub length-pending_each : (n : ℕ) (writes : List Waiting) → length (pending_each n writes) ≡ n
length-pending_each zero writes = refl
length-pending_each (suc n) writes = omega (arith, length-append (pending_each n writes) (writes_on n writes ∷ []), length-pending_each n writes)

below_next : (n : ℕ) (writes : List Waiting) → count_by (λ w. nat_lt w.channel n) writes + writes_on n writes ≡ count_by (λ w. nat_lt w.channel (suc n)) writes
below_next n [] = refl
below_next n (w ∷ writes) =
    let one : cond (nat_lt w.channel n) 1 0 + cond (w.channel == n) 1 0 ≡ cond (nat_lt w.channel (suc n)) 1 0 = grind (arith, nat_tests) in
    omega (arith, one, below_next n writes, sum_by-cons {X = Waiting})

sum_each : (n : ℕ) (writes : List Waiting) → sum (pending_each n writes) ≤ count_by (λ w. nat_lt w.channel n) writes
sum_each zero writes = omega arith
sum_each (suc n) writes = omega (arith, sum_by-append (λ x. x) (pending_each n writes) (writes_on n writes ∷ []), sum_each n writes, below_next n writes)

pub sum_pending_each : (n : ℕ) (writes : List Waiting) → sum (pending_each n writes) ≤ length writes
sum_pending_each n writes = omega (arith, sum_each n writes, count_by-le-length (λ w. nat_lt w.channel n) writes)
