-- Requests that are numbered anew.
use Rattle.std.proofs.Common.{◌≡◌, ℕ, zero, suc, ◌+◌, ◌<◌, List, [], ◌∷◌, ◌++◌, refl, ap, ◌∙◌, add-one, arith, take, drop, length, get_or, set}
use Rattle.frfcfs.proofs.Common.{IsWaiting, Pending, Waiting, numbered_from}
use Rattle.frfcfs.proofs.QueueLemmas.{lines}

pub length-numbered : (n : ℕ) (xs : List Pending) → length (numbered_from n xs) ≡ length xs
length-numbered n [] = refl
length-numbered n (x ∷ xs) = ap suc (length-numbered (n + 1) xs)

pub lines_numbered : (n : ℕ) (xs : List Pending) → lines (numbered_from n xs) ≡ lines xs
lines_numbered n [] = refl
lines_numbered n (x ∷ xs) = ap (λ rest. x.line ∷ rest) (lines_numbered (n + 1) xs)

-- each is as it was but for its seq
pub numbered_at : (n : ℕ) (xs : List Pending) (i : ℕ) (d : Pending) → i < length xs → get_or (numbered_from n xs) i d ≡ record (get_or xs i d) { seq = n + i }
numbered_at n [] i d within = absurd (omega (arith, within))
numbered_at n (x ∷ xs) zero d within = ap (λ (k : ℕ). record x { seq = k }) (omega arith)
numbered_at n (x ∷ xs) (suc i) d within = numbered_at (n + 1) xs i d (omega (arith, within)) ∙ ap (λ (k : ℕ). record (get_or xs i d) { seq = k }) (omega arith)

-- each seq is its place, counted from n
seq_at : (n : ℕ) (xs : List Pending) (i : ℕ) (d : Pending) → i < length xs → (get_or (numbered_from n xs) i d).seq ≡ n + i
seq_at n [] i d within = absurd (omega (arith, within))
seq_at n (x ∷ xs) zero d within = omega arith
seq_at n (x ∷ xs) (suc i) d within = omega (arith, seq_at (n + 1) xs i d (omega (arith, within)))

pub waiting_numbered : (w : Waiting) → IsWaiting w → IsWaiting (record { most = w.most; next = length w.requests; requests = numbered_from 0 w.requests })
waiting_numbered w is =
    let size = length-numbered 0 w.requests in
    record {
      order = λ i j d less within. omega (arith, seq_at 0 w.requests i d (omega (arith, less, within, size)), seq_at 0 w.requests j d (omega (arith, within, size)), less);
      before = λ i d within. omega (arith, seq_at 0 w.requests i d (omega (arith, within, size)), within, size);
      few = omega (arith, size, is.few);
    }

next_numbered : (n : ℕ) (xs : List Pending) (i seq : ℕ) (d : Pending) → i < length xs → seq ≡ n + i
    → set (numbered_from n (take i xs) ++ drop i xs) i (record (get_or (numbered_from n (take i xs) ++ drop i xs) i d) { seq = seq }) ≡ numbered_from n (take (suc i) xs) ++ drop (suc i) xs
next_numbered n [] i seq d within is = absurd (omega (arith, within))
next_numbered n (x ∷ xs) zero seq d within is = let e : seq ≡ n = omega (arith, is) in ap (λ (k : ℕ). record x { seq = k } ∷ xs) e
next_numbered n (x ∷ xs) (suc i) seq d within is = ap (λ (rest : List Pending). record x { seq = n } ∷ rest) (next_numbered (n + 1) xs i seq d (omega (arith, within)) (omega (arith, is)))

-- a loop that numbers each request
pub number_more : (xs ys : List Pending) (i : ℕ) (p : Pending) → i < length xs → ys ≡ numbered_from 0 (take i xs) ++ drop i xs → p ≡ get_or ys i p
    → set ys i (record p { seq = i }) ≡ numbered_from 0 (take (i + 1) xs) ++ drop (i + 1) xs
number_more xs ys i p within is read = ap (λ (q : Pending). set ys i (record q { seq = i })) read ∙ rw (is, add-one) (next_numbered 0 xs i i p within (omega arith))
