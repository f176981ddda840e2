-- The numbers of the writes that wait in a channel.
use Rattle.std.proofs.Common.{rules, arith, ◌≡◌, ◌==◌, ◌||◌, ◌≤◌, ℕ, zero, suc, Bool, true, false, List, [], ◌∷◌, cond, count_by, filter, get_or, length, map, nat_lt, remove, slice_get, Some, inl, inr, refl, sym, ap, ◌∙◌}
use Rattle.std.specs.List.{list_any}
use Rattle.std.proofs.lemmas.List.Sums.{length-filter}
use Rattle.std.proofs.lemmas.Option.{slice_get_within}
use Rattle.std.proofs.Math.Bool.{or-true}
use Rattle.ddr4_port.proofs.Common.{IsPending, NoneBelow, Numbered, PendingWrite, WaitFrom, before_removal, eqb-true}
use Rattle.ddr4_port.proofs.Common.{lt-ltb, waiting_on}
use Rattle.wpq_core.specs.Writes.{NumbersRise}
use Rattle.frfcfs.proofs.Lists.{All-at}

-- a pending write has this number
pub record HasNumber (writes : List PendingWrite) (number : ℕ) : Type 0 where
  pub index : ℕ
  pub write : PendingWrite
  pub there : slice_get writes index ≡ Some write
  pub named : write.number ≡ number

same-number : (a b : ℕ) → a ≡ b → (a == b) ≡ true
same-number a b same = search rules

number-head : (channel number : ℕ) (w : PendingWrite) (ws : List PendingWrite) (b : Bool) → (w.number == number) ≡ b → (list_any (λ v. v.number == number) (map (waiting_on channel) ws) ≡ true → HasNumber ws number)
    → (b || list_any (λ v. v.number == number) (map (waiting_on channel) ws)) ≡ true → HasNumber (w ∷ ws) number
number-head channel number w ws true is rest e = record { index = zero; write = w; there = refl; named = eqb-true w.number number is }
number-head channel number w ws false is rest e = let found = rest e in record { index = suc found.index; write = found.write; there = found.there; named = found.named }

pub number-found : (channel number : ℕ) (ws : List PendingWrite) → IsPending number (map (waiting_on channel) ws) → HasNumber ws number
number-found channel number [] e = absurd cc
number-found channel number (w ∷ ws) e = number-head channel number w ws (w.number == number) refl (number-found channel number ws) e

waits-at : (channel number : ℕ) (ws : List PendingWrite) (i : ℕ) (w : PendingWrite) → slice_get ws i ≡ Some w → w.number ≡ number → IsPending number (map (waiting_on channel) ws)
waits-at channel number [] i w there named = absurd cc
waits-at channel number (v ∷ ws) zero w there named =
    let same : v ≡ w = cc in
    ap (λ b. b || list_any (λ v. v.number == number) (map (waiting_on channel) ws)) (same-number v.number number (ap (λ (x : PendingWrite). x.number) same ∙ named))
waits-at channel number (v ∷ ws) (suc i) w there named = ap (λ b. (v.number == number) || b) (waits-at channel number ws i w there named) ∙ or-true (v.number == number)

pub number-waits : (channel number : ℕ) (ws : List PendingWrite) → HasNumber ws number → IsPending number (map (waiting_on channel) ws)
number-waits channel number ws has = waits-at channel number ws has.index has.write has.there has.named

-- of these writes each is one of those
abbrev pub AmongWrites : List PendingWrite → List PendingWrite → Type 0
AmongWrites old new = (i : ℕ) (w : PendingWrite) → slice_get new i ≡ Some w → (j : ℕ) × (slice_get old j ≡ Some w)

pub waited : (channel n : ℕ) (mine : List Numbered) (old new : List PendingWrite) → AmongWrites old new → WaitFrom n mine (map (waiting_on channel) new) → WaitFrom n mine (map (waiting_on channel) old)
waited channel n mine old new among waits k d less = λ from.
    let has = number-found channel (get_or mine k d).number new (waits k d less from) in
    let was = among has.index has.write has.there in
    number-waits channel (get_or mine k d).number old (record { index = was.0; write = has.write; there = was.1; named = has.named })

-- one of them from n on waits
pub wait-of : (channel n k : ℕ) (mine : List Numbered) (ws : List PendingWrite) (v : Numbered) → WaitFrom n mine (map (waiting_on channel) ws) → slice_get mine k ≡ Some v → n ≤ v.number → HasNumber ws v.number
wait-of channel n k mine ws v waits there from = number-found channel v.number ws (All-at (λ w. n ≤ w.number → IsPending w.number (map (waiting_on channel) ws)) mine k v waits there from)

-- none of them is below n
below-head : (channel n : ℕ) (w : PendingWrite) (ws : List PendingWrite) (b : Bool) → nat_lt w.number n ≡ b → (b || list_any (λ v. nat_lt v.number n) (map (waiting_on channel) ws)) ≡ false
    → (nat_lt w.number n ≡ false) × (list_any (λ v. nat_lt v.number n) (map (waiting_on channel) ws) ≡ false)
below-head channel n w ws true is e = absurd cc
below-head channel n w ws false is e = (is, e)

pub none-counted : (channel n : ℕ) (ws : List PendingWrite) → NoneBelow n (map (waiting_on channel) ws) → count_by (λ w. nat_lt w.number n) ws ≡ 0
none-counted channel n [] e = refl
none-counted channel n (w ∷ ws) e =
    let (here, rest) = below-head channel n w ws (nat_lt w.number n) refl e in
    rw (here, none-counted channel n ws rest)

-- there is one exactly where some are counted
some-counted : {A : Type 0} (p : A → Bool) (xs : List A) → nat_lt 0 (length (filter p xs)) ≡ list_any p xs
some-counted p [] = refl
some-counted p (x ∷ xs) = with-head (p x) (some-counted p xs)
  where
    with-head : (b : Bool) → nat_lt 0 (length (filter p xs)) ≡ list_any p xs → nat_lt 0 (length (cond b (x ∷ filter p xs) (filter p xs))) ≡ (b || list_any p xs)
    with-head true rest = lt-ltb 0 (suc (length (filter p xs))) (omega arith)
    with-head false rest = rest

any-mapped : (channel n : ℕ) (ws : List PendingWrite) → list_any (λ w. nat_lt w.number n) (map (waiting_on channel) ws) ≡ list_any (λ w. nat_lt w.number n) ws
any-mapped channel n [] = refl
any-mapped channel n (w ∷ ws) = ap (λ b. nat_lt w.number n || b) (any-mapped channel n ws)

-- whether one of them is below n, by their count
pub some-below : (channel n : ℕ) (ws : List PendingWrite) → nat_lt 0 (count_by (λ w. nat_lt w.number n) ws) ≡ list_any (λ w. nat_lt w.number n) (map (waiting_on channel) ws)
some-below channel n ws =
    ap (nat_lt 0) (sym (length-filter (λ w. nat_lt w.number n) ws)) ∙ some-counted (λ w. nat_lt w.number n) ws ∙ sym (any-mapped channel n ws)

-- where the number of a write that went is to wait still, there is a contradiction
pub gone-number : (ws : List PendingWrite) (k m number : ℕ) (v w : PendingWrite) → NumbersRise ws → slice_get ws k ≡ Some v → v.number ≡ number → slice_get (remove ws k) m ≡ Some w → w.number ≡ number → ⊥
gone-number ws k m number v w rise stands named there same =
    elim (before_removal ws k m w (slice_get_within ws k v stands) there) [
      | inl b ↦ let less = rise m k w v b.0 b.1 stands in omega (arith, less, named, same)
      | inr b ↦ let less = rise k (suc m) v w (omega (arith, b.0)) stands b.1 in omega (arith, less, named, same)
    ]
