-- The attempts up to some of their writes.
use Rattle.std.proofs.Common.{◌≡◌, ℕ, zero, suc, ◌-◌, ◌<◌, ◌≤◌, inl, inr, false, List, [], ◌∷◌, ◌++◌, length, take, min, refl, sym, ap, ◌∙◌, arith, append_assoc, length-append}
use Rattle.std.specs.Prelude.{if◌then◌else◌}
use Rattle.std.proofs.lemmas.Bool.{cases_lt, lt-ltb, le-ltb}
use Rattle.std.proofs.lemmas.List.{length-take, take-take, take_all}
use Rattle.line_memory.specs.declared.Write.{Write}
use Rattle.journal_log.specs.Log.{Log}
use Rattle.journal_log.specs.Calls.{AreAllowed, Attempt, Call, attempt, call_writes, done_of, is_done, journal_writes, kept_in, lines_before_head, log_behind, upto_write, writes_in, writes_made}
use Rattle.journal_log.proofs.Heads.{length-call}

-- the first n of the first k, and of two lists
take-min : {A : Type 0} (n k : ℕ) (xs : List A) → take n (take k xs) ≡ take (min n k) xs
take-min n k xs =
    elim (cases_lt n k) [
      | inl less ↦ take-take n k xs (omega (arith, less)) ∙ ap (λ (i : ℕ). take i xs) (let e : n ≡ min n k = omega (arith, less) in e)
      | inr more ↦ take_all n (take k xs) (omega (arith, more, length-take k xs)) ∙ ap (λ (i : ℕ). take i xs) (let e : k ≡ min n k = omega (arith, more) in e)
    ]

take_none : {A : Type 0} (n : ℕ) → take {A = A} n [] ≡ []
take_none zero = refl
take_none (suc n) = refl

take_past : {A : Type 0} (n : ℕ) (xs ys : List A) → take n (xs ++ ys) ≡ take n xs ++ take (n - length xs) ys
take_past {A} n [] ys = ap (λ (i : ℕ). take i ys) (let e : n ≡ n - 0 = omega arith in e) ∙ ap (λ (l : List A). l ++ take (n - 0) ys) (sym (take_none n))
take_past {A} zero (x ∷ xs) ys = ap (λ (i : ℕ). take i ys) (let e : 0 ≡ 0 - suc (length xs) = omega arith in e)
take_past {A} (suc n) (x ∷ xs) ys = ap (λ (l : List A). x ∷ l) (take_past n xs ys ∙ ap (λ (i : ℕ). take n xs ++ take i ys) (let e : n - length xs ≡ suc n - suc (length xs) = omega arith in e))

-- an attempt all of whose writes are among the first n is done as before
same_done : (n : ℕ) (a : Attempt) → writes_made a ≤ n → is_done (attempt a.call (min n a.made)) ≡ is_done a
same_done n a all =
    elim (cases_lt (length (lines_before_head a.call)) a.made) [
      | inl done ↦ lt-ltb (length (lines_before_head a.call)) (min n a.made) (omega (arith, done, all)) ∙ sym (lt-ltb (length (lines_before_head a.call)) a.made done)
      | inr short ↦ le-ltb (length (lines_before_head a.call)) (min n a.made) (omega (arith, short)) ∙ sym (le-ltb (length (lines_before_head a.call)) a.made short)
    ]

-- one that isn't is not done
not_done : (n : ℕ) (a : Attempt) → n < writes_made a → is_done (attempt a.call (min n a.made)) ≡ false
not_done n a some = le-ltb (length (lines_before_head a.call)) (min n a.made) (omega (arith, some))

length-attempt : (lines : ℕ) (log : Log) (a : Attempt) → length (take a.made (call_writes lines log a.call)) ≡ writes_made a
length-attempt lines log a = length-take a.made (call_writes lines log a.call) ∙ ap (min a.made) (length-call lines log a.call)

pub length-journal : (attempts : List Attempt) (lines : ℕ) (log : Log) → length (journal_writes lines log attempts) ≡ writes_in attempts
length-journal [] lines log = refl
length-journal (a ∷ rest) lines log =
    omega (arith, length-append (take a.made (call_writes lines log a.call)) (journal_writes lines (log_behind lines log a) rest), length-attempt lines log a, length-journal rest lines (log_behind lines log a))

-- their writes are the first n
pub upto-writes : (attempts : List Attempt) (lines : ℕ) (log : Log) (n : ℕ) → take n (journal_writes lines log attempts) ≡ journal_writes lines log (upto_write n attempts)
upto-writes [] lines log n = take_none n
upto-writes (a ∷ rest) lines log n =
    take_past n (take a.made (call_writes lines log a.call)) (journal_writes lines (log_behind lines log a) rest)
    ∙ ap (λ (i : ℕ). take n (take a.made (call_writes lines log a.call)) ++ take (n - i) (journal_writes lines (log_behind lines log a) rest)) (length-attempt lines log a)
    ∙ ap (λ (ws : List Write). ws ++ take (n - writes_made a) (journal_writes lines (log_behind lines log a) rest)) (take-min n a.made (call_writes lines log a.call))
    ∙ ap (λ (ws : List Write). take (min n a.made) (call_writes lines log a.call) ++ ws)
    (elim (cases_lt n (writes_made a)) [
      | inl some ↦
          let none : n - writes_made a ≡ 0 = omega (arith, some) in
          rw (none, lt-ltb n (writes_made a) some) refl
      | inr all ↦
          rw (le-ltb n (writes_made a) all, same_done n a all) (upto-writes rest lines (log_behind lines log a) (n - writes_made a))
    ])

-- and they are allowed
pub upto-allowed : (attempts : List Attempt) (lines : ℕ) (log : Log) (n : ℕ) → AreAllowed lines log attempts → AreAllowed lines log (upto_write n attempts)
upto-allowed [] lines log n allowed = tt
upto-allowed (a ∷ rest) lines log n allowed =
    elim (cases_lt n (writes_made a)) [
      | inl some ↦ (allowed.0, rw (lt-ltb n (writes_made a) some) tt)
      | inr all ↦ (allowed.0, rw (le-ltb n (writes_made a) all, same_done n a all) (upto-allowed rest lines (log_behind lines log a) (n - writes_made a) allowed.1))
    ]

-- where n holds all writes of the first attempts, it holds all of them that were done
pub told : (first later : List Attempt) (n : ℕ) → writes_in first ≤ n → kept_in n (first ++ later) ≡ done_of first ++ kept_in (n - writes_in first) later
told [] later n all = ap (λ (i : ℕ). kept_in i later) (let e : n ≡ n - 0 = omega arith in e)
told (a ∷ first) later n all =
    let here : writes_made a ≤ n = omega (arith, all) in
    let rest : n - writes_made a - writes_in first ≡ n - writes_in (a ∷ first) = omega arith in
    rw (le-ltb n (writes_made a) here, same_done n a here)
    (ap (λ (calls : List Call). (if is_done a then a.call ∷ [] else []) ++ calls) (told first later (n - writes_made a) (omega (arith, all)) ∙ ap (λ (i : ℕ). done_of first ++ kept_in i later) rest)
    ∙ sym (append_assoc (if is_done a then a.call ∷ [] else []) (done_of first) (kept_in (n - writes_in (a ∷ first)) later)))

-- the calls among the first n writes are a first part of those that were done
pub front : (attempts : List Attempt) (n : ℕ) → (later : List Call) × (done_of attempts ≡ kept_in n attempts ++ later)
front [] n = ([], refl)
front (a ∷ rest) n =
    elim (cases_lt n (writes_made a)) [
      | inl some ↦ (done_of (a ∷ rest), rw (lt-ltb n (writes_made a) some, not_done n a some) refl)
      | inr all ↦
          let more = front rest (n - writes_made a) in (
            more.0,
            rw (le-ltb n (writes_made a) all, same_done n a all)
                (ap (λ (calls : List Call). (if is_done a then a.call ∷ [] else []) ++ calls) more.1
                ∙ sym (append_assoc (if is_done a then a.call ∷ [] else []) (kept_in (n - writes_made a) rest) more.0)),
          )
    ]
