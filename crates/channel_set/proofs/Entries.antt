-- How many writes the drains of several ports take into the arrays.
use Rattle.std.proofs.Math.Seq.{take-append-add, take-length, take-suc}
use Rattle.std.proofs.lemmas.List.{get_or-map, length-map, take-append-le}
use Rattle.energy_budget.specs.Actions.{drain_actions}
use Rattle.channel_port.proofs.Entries.{entries-both, entries-most, entries-whole}
use Rattle.channel_port.specs.Draining.{entries_in, pending_each}
use Rattle.channel_set.proofs.Common.{arith, ◌≡◌, ◌+◌, ◌<◌, ◌≤◌, ℕ, zero, suc, refl, sym, ap, ◌∙◌, List, [], ◌∷◌, ◌++◌, flat_map, get_or, length, length-append, map, slice_get, take, Some, Ghosts, get_or_from_slice_get, same_Some, slice_get_within, writes_on, PortTerms, ArePorts, waits_in}
use Rattle.channel_set.proofs.Counted.{OwnWrites, writes-there, writes_in}
use Rattle.channel_set.proofs.Lists.{at-within, taken-count}

-- how many writes wait in each
abbrev pub lengths : {X A : Type 0} → (X → List A) → List X → List ℕ
lengths f xs = map (λ x. length (f x)) xs

-- The drains of the first piles were paid for, and so many actions of the next one.
pub entries-upto : {X A : Type 0} (f : X → List A) (xs : List X) (k j : ℕ) (x : X) → slice_get xs k ≡ Some x → j ≤ length (drain_actions (length (f x)))
    → entries_in (take (length (flat_map drain_actions (take k (lengths f xs))) + j) (flat_map drain_actions (lengths f xs))) ≡ taken-count f k (entries_in (take j (drain_actions (length (f x))))) xs
entries-upto f [] k j x at within = absurd cc
entries-upto f (y ∷ xs) zero j x at within =
    let same : y ≡ x = same_Some y x at in
    let less : j ≤ length (drain_actions (length (f y))) = omega (arith, within, ap (λ z. length (drain_actions (length (f z)))) same) in
    let none : 0 + j ≡ j = omega arith in
    ap (λ n. entries_in (take n (flat_map drain_actions (lengths f (y ∷ xs))))) none
    ∙ ap entries_in (take-append-le j (drain_actions (length (f y))) (flat_map drain_actions (lengths f xs)) less)
    ∙ omega (arith, entries-most j (length (f y)) less, ap (λ z. entries_in (take j (drain_actions (length (f z))))) same)
entries-upto f (y ∷ xs) (suc k) j x at within =
    let first = drain_actions (length (f y)) in
    let some = flat_map drain_actions (take k (lengths f xs)) in
    let rest = flat_map drain_actions (lengths f xs) in
    let count : length (first ++ some) + j ≡ length first + (length some + j) = omega (arith, length-append first some) in
    ap (λ n. entries_in (take n (first ++ rest))) count
    ∙ ap entries_in (take-append-add first rest (length some + j))
    ∙ omega (arith, entries-both first (take (length some + j) rest), entries-whole (length (f y)), entries-upto f xs k j x at within)

pub entries-all : {X A : Type 0} (f : X → List A) (xs : List X) → entries_in (flat_map drain_actions (lengths f xs)) ≡ length (flat_map f xs)
entries-all f [] = refl
entries-all f (x ∷ xs) =
    omega (arith, entries-both (drain_actions (length (f x))) (flat_map drain_actions (lengths f xs)), entries-whole (length (f x)), entries-all f xs, length-append (f x) (flat_map f xs))

module _ {K : Type 0} (L : Ghosts K) (terms : PortTerms) (ports : List K) (are : ArePorts L terms ports) (own : OwnWrites L) where
  pub pending-lengths : (m : ℕ) → m ≤ length ports → pending_each m (waits_in L ports).writes ≡ take m (lengths (writes_in L) ports)
  pending-lengths zero less = refl
  pending-lengths (suc m) less =
      let p = at-within ports m (omega (arith, less)) in
      let ns = lengths (writes_in L) ports in
      let within : m < length ns = omega (arith, less, length-map ports (λ x. length (writes_in L x))) in
      let value : get_or ns m 0 ≡ length (writes_in L p.it) =
      get_or-map (λ x. length (writes_in L x)) ports m p.it 0 (omega (arith, less)) ∙ ap (λ x. length (writes_in L x)) (get_or_from_slice_get ports m p.it p.it p.stands) in
      ap (λ xs. xs ++ writes_on m (waits_in L ports).writes ∷ []) (pending-lengths m (omega (arith, less)))
      ∙ ap (λ n. take m ns ++ n ∷ []) (writes-there L terms ports are own m p.it p.stands ∙ sym value)
      ∙ sym (take-suc ns m 0 within)

  pub all-lengths : pending_each (length ports) (waits_in L ports).writes ≡ lengths (writes_in L) ports
  all-lengths =
      let count : length ports ≡ length (lengths (writes_in L) ports) = sym (length-map ports (λ x. length (writes_in L x))) in
      pending-lengths (length ports) (omega arith) ∙ ap (λ n. take n (lengths (writes_in L) ports)) count ∙ take-length (lengths (writes_in L) ports)

  -- the drains of the first ports were paid for, and so many actions of the next one's
  pub entries-first : (i j : ℕ) (p : K) → slice_get ports i ≡ Some p → j ≤ length (drain_actions (length (writes_in L p)))
      → entries_in (take (length (flat_map drain_actions (pending_each i (waits_in L ports).writes)) + j) (flat_map drain_actions (pending_each (length ports) (waits_in L ports).writes)))
      ≡ taken-count (writes_in L) i (entries_in (take j (drain_actions (length (writes_in L p))))) ports
  entries-first i j p at within =
      ap (λ ns. entries_in (take (length (flat_map drain_actions ns) + j) (flat_map drain_actions (pending_each (length ports) (waits_in L ports).writes)))) (pending-lengths i (omega (arith, slice_get_within ports i p at)))
      ∙ ap (λ ns. entries_in (take (length (flat_map drain_actions (take i (lengths (writes_in L) ports))) + j) (flat_map drain_actions ns))) all-lengths
      ∙ entries-upto (writes_in L) ports i j p at within

  -- all were
  pub entries-each : let actions = flat_map drain_actions (pending_each (length ports) (waits_in L ports).writes) in entries_in (take (length actions) actions) ≡ length (waits_in L ports).writes
  entries-each =
      ap entries_in (take-length (flat_map drain_actions (pending_each (length ports) (waits_in L ports).writes)))
      ∙ ap (λ ns. entries_in (flat_map drain_actions ns)) all-lengths
      ∙ entries-all (writes_in L) ports
