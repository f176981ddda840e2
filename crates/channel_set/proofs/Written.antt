-- What the part of a history on a channel has of it.
use Rattle.std.proofs.lemmas.List.{append-nil}
use Rattle.line_memory.proofs.Parting as parting
use Rattle.channel_set.proofs.Lists.{all-of}
use Rattle.channel_set.proofs.Common.{AreBefore, rules, arith, ◌≡◌, ◌==◌, ◌+◌, ◌-◌, ◌<◌, ◌≤◌, ℕ, zero, suc, Bool, true, false, cond, nat_lt, if◌then◌else◌, refl, sym, ap, subst, ◌∙◌, List, [], ◌∷◌, ◌++◌, length, slice_get, Some, same_Some, slice_get_within, eq-eqb, eqb-true, ne_eqb, ◌≢◌, Has, Write, Numbered, below, numbered, written_on}

-- the write is one of the history, under its number, and lies on the channel
pub record IsOn (channel_of : ℕ → ℕ) (channel start : ℕ) (writes : List Write) (w : Numbered) : Type 0 where
  pub least : start ≤ w.number
  pub stands : slice_get writes (w.number - start) ≡ Some w.write
  pub here : channel_of w.write.line ≡ channel

pub written-is : (channel_of : ℕ → ℕ) (channel start : ℕ) (writes : List Write) (w : Numbered) → Has w (written_on channel_of channel start writes) → IsOn channel_of channel start writes w
written-is channel_of channel start [] w (k, at) = absurd cc
written-is channel_of channel start (v ∷ writes) w has = by (channel_of v.line == channel) refl (written-is channel_of channel (start + 1) writes w) has
  where
    later : IsOn channel_of channel (start + 1) writes w → IsOn channel_of channel start (v ∷ writes) w
    later rest =
        let next : suc (w.number - (start + 1)) ≡ w.number - start = omega (arith, rest.least) in
        record { least = omega (arith, rest.least); stands = ap (slice_get (v ∷ writes)) (sym next) ∙ rest.stands; here = rest.here }

    first : (channel_of v.line == channel) ≡ true → numbered start v ≡ w → IsOn channel_of channel start (v ∷ writes) w
    first passes is =
        let none : 0 ≡ start - start = omega arith in
        subst (IsOn channel_of channel start (v ∷ writes)) is (record { least = omega arith; stands = ap (slice_get (v ∷ writes)) (sym none); here = eqb-true (channel_of v.line) channel passes })

    by : (b : Bool) → (channel_of v.line == channel) ≡ b → (Has w (written_on channel_of channel (start + 1) writes) → IsOn channel_of channel (start + 1) writes w)
        → Has w (if b then numbered start v ∷ written_on channel_of channel (start + 1) writes else written_on channel_of channel (start + 1) writes)
        → IsOn channel_of channel start (v ∷ writes) w
    by true is rest (zero, at) = first is (same_Some (numbered start v) w at)
    by true is rest (suc k, at) = later (rest (k, at))
    by false is rest there = later (rest there)

-- all of them are below the end
pub below-whole : (n : ℕ) (mine : List Numbered) → ((w : Numbered) → Has w mine → w.number < n) → below n mine ≡ mine
below-whole n [] each = refl
below-whole n (w ∷ mine) each =
    let less : w.number < n = each w (zero, refl) in
    let passes : nat_lt w.number n ≡ true = search rules in
    ap (λ b. cond b (w ∷ below n mine) (below n mine)) passes ∙ ap (λ ws. w ∷ ws) (below-whole n mine (λ v (k, at). each v (suc k, at)))

pub written-before : (channel_of : ℕ → ℕ) (channel start : ℕ) (writes : List Write) (w : Numbered) → Has w (written_on channel_of channel start writes) → w.number < start + length writes
written-before channel_of channel start writes w has =
    let is = written-is channel_of channel start writes w has in
    omega (arith, is.least, slice_get_within writes (w.number - start) w.write is.stands)

-- the part of a history has the numbers before its end
pub numbers-before : (channel_of : ℕ → ℕ) (channel start : ℕ) (writes : List Write) (number : ℕ) → number ≡ start + length writes → AreBefore number (written_on channel_of channel start writes)
numbers-before channel_of channel start writes number last =
    all-of (λ w. w.number < number) (written_on channel_of channel start writes) (λ k w at. let less = written-before channel_of channel start writes w (k, at) in omega (arith, less, last))

-- one more write, on the channel of its line and on another one
pub written-here : (channel_of : ℕ → ℕ) (channel start : ℕ) (writes : List Write) (write : Write) (number : ℕ) → number ≡ start + length writes → channel_of write.line ≡ channel
    → written_on channel_of channel start (writes ++ write ∷ []) ≡ written_on channel_of channel start writes ++ numbered number write ∷ []
written-here channel_of channel start writes write number is here =
    parting.push channel_of channel start writes write
    ∙ ap (λ (b : Bool). written_on channel_of channel start writes ++ (if b then numbered (start + length writes) write ∷ [] else [])) (eq-eqb (channel_of write.line) channel here)
    ∙ ap (λ n. written_on channel_of channel start writes ++ numbered n write ∷ []) (sym is)

pub written-else : (channel_of : ℕ → ℕ) (channel start : ℕ) (writes : List Write) (write : Write) → channel_of write.line ≢ channel
    → written_on channel_of channel start (writes ++ write ∷ []) ≡ written_on channel_of channel start writes
written-else channel_of channel start writes write apart =
    parting.push channel_of channel start writes write
    ∙ ap (λ (b : Bool). written_on channel_of channel start writes ++ (if b then numbered (start + length writes) write ∷ [] else [])) (ne_eqb (channel_of write.line) channel apart)
    ∙ append-nil (written_on channel_of channel start writes)

-- a number is that of a write on one channel alone
pub written-once : (channel_of : ℕ → ℕ) (i j start : ℕ) (writes : List Write) (w u : Numbered) → Has w (written_on channel_of i start writes) → Has u (written_on channel_of j start writes) → u.number ≡ w.number → j ≡ i
written-once channel_of i j start writes w u has there number =
    let on = written-is channel_of i start writes w has in
    let other = written-is channel_of j start writes u there in
    let write : u.write ≡ w.write = same_Some u.write w.write (sym other.stands ∙ ap (λ m. slice_get writes (m - start)) number ∙ on.stands) in
    sym other.here ∙ ap (λ (x : Write). channel_of x.line) write ∙ on.here
