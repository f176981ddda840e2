-- What the parts of a history say of it.
use Rattle.std.proofs.Common.{rules, ◌≡◌, ◌≢◌, ◌⊎◌, ◌==◌, ℕ, zero, suc, ◌+◌, ◌-◌, ◌<◌, ◌≤◌, Bool, true, false, List, [], ◌∷◌, ◌++◌, length, take, set, refl, sym, ap, ◌∙◌, subst, inl, inr, ⊎_elim, arith, eq-eqb, get_or-set_same, get_or-set_other, length-set}
use Rattle.std.specs.Prelude.{nat_lt, if◌then◌else◌}
use Rattle.std.proofs.lemmas.Bool.{cases_eq}
use Rattle.line_memory.specs.declared.Write.{Write}
use Rattle.line_memory.specs.declared.parts.Numbered.{Numbered}
use Rattle.line_memory.specs.Memory.{after, after_write, line_of, memory_at}
use Rattle.line_memory.specs.Parts.{below, numbered, writes_of, written_on}

-- a further write
pub push : (channel_of : ℕ → ℕ) (c start : ℕ) (ws : List Write) (w : Write)
    → written_on channel_of c start (ws ++ w ∷ []) ≡ written_on channel_of c start ws ++ (if channel_of w.line == c then numbered (start + length ws) w ∷ [] else [])
push channel_of c start [] w = by (channel_of w.line == c)
  where
    by : (b : Bool) → (if b then numbered start w ∷ [] else []) ≡ (if b then numbered (start + 0) w ∷ [] else [])
    by b = let same : start ≡ start + 0 = omega arith in ap (λ (k : ℕ). if b then numbered k w ∷ [] else []) same
push channel_of c start (v ∷ ws) w =
    let rest = push channel_of c (start + 1) ws w in
    let more = if channel_of w.line == c then numbered (start + 1 + length ws) w ∷ [] else [] in
    let number : start + 1 + length ws ≡ start + suc (length ws) = omega arith in
    by (channel_of v.line == c) (written_on channel_of c (start + 1) (ws ++ w ∷ [])) (written_on channel_of c (start + 1) ws) more rest
    ∙ ap (λ (k : ℕ). written_on channel_of c start (v ∷ ws) ++ (if channel_of w.line == c then numbered k w ∷ [] else [])) number
  where
    by : (b : Bool) (xs ys more : List Numbered) → xs ≡ ys ++ more → (if b then numbered start v ∷ xs else xs) ≡ (if b then numbered start v ∷ ys else ys) ++ more
    by true xs ys more is = ap (λ (zs : List Numbered). numbered start v ∷ zs) is
    by false xs ys more is = is

-- two memories of one size have the same at a line
record SameAt (line : ℕ) (m n : List (List ℕ)) : Type 0 where
  size : length m ≡ length n
  same : line_of m line ≡ line_of n line

same_written : (line : ℕ) (m n : List (List ℕ)) (w : Write) → SameAt line m n → SameAt line (after_write m w) (after_write n w)
same_written line m n w s = record {
  size = length-set m w.line w.«data» ∙ s.size ∙ sym (length-set n w.line w.«data»);
  same = ⊎_elim
      (λ (e : w.line ≡ line). at_line e)
      (λ (e : w.line ≢ line). get_or-set_other m w.line line w.«data» [] (λ f. e (sym f)) ∙ s.same ∙ sym (get_or-set_other n w.line line w.«data» [] (λ f. e (sym f))))
      (cases_eq w.line line);
}
  where
    beyond : (m : List (List ℕ)) (k : ℕ) (x : List ℕ) → length m ≤ k → set m k x ≡ m
    beyond [] k x less = refl
    beyond (y ∷ m) zero x less = absurd (omega (arith, less))
    beyond (y ∷ m) (suc k) x less = ap (λ (r : List (List ℕ)). y ∷ r) (beyond m k x (omega (arith, less)))

    within_or : (k n : ℕ) → (k < n) ⊎ (n ≤ k)
    within_or k zero = inr (omega arith)
    within_or zero (suc n) = inl (omega arith)
    within_or (suc k) (suc n) = ⊎_elim (λ l. inl (omega (arith, l))) (λ l. inr (omega (arith, l))) (within_or k n)

    at_line : w.line ≡ line → line_of (after_write m w) line ≡ line_of (after_write n w) line
    at_line e =
        ⊎_elim
        (λ (less : w.line < length m).
        subst (λ (k : ℕ). line_of (after_write m w) k ≡ line_of (after_write n w) k) e
        (get_or-set_same m w.line w.«data» [] less ∙ sym (get_or-set_same n w.line w.«data» [] (omega (arith, less, s.size)))))
        (λ (more : length m ≤ w.line).
        ap (λ (ls : List (List ℕ)). line_of ls line) (beyond m w.line w.«data» more) ∙ s.same
        ∙ sym (ap (λ (ls : List (List ℕ)). line_of ls line) (beyond n w.line w.«data» (omega (arith, more, s.size)))))
        (within_or w.line (length m))

same_after : (line : ℕ) (m n : List (List ℕ)) (ws : List Write) → SameAt line m n → line_of (after m ws) line ≡ line_of (after n ws) line
same_after line m n [] s = s.same
same_after line m n (w ∷ ws) s = same_after line (after_write m w) (after_write n w) ws (same_written line m n w s)

-- a write of another line
other_written : (line : ℕ) (m : List (List ℕ)) (w : Write) → w.line ≢ line → SameAt line (after_write m w) m
other_written line m w other = record {
  size = length-set m w.line w.«data»;
  same = get_or-set_other m w.line line w.«data» [] (λ f. other (sym f));
}

nothing_below : (channel_of : ℕ → ℕ) (c start n : ℕ) (ws : List Write) → n ≤ start → below n (written_on channel_of c start ws) ≡ []
nothing_below channel_of c start n [] less = refl
nothing_below channel_of c start n (w ∷ ws) less =
    let rest = nothing_below channel_of c (start + 1) n ws (omega (arith, less)) in
    let out : nat_lt start n ≡ false = search rules in
    by (channel_of w.line == c) (written_on channel_of c (start + 1) ws) out rest
  where
    by : (b : Bool) (xs : List Numbered) → nat_lt start n ≡ false → below n xs ≡ [] → below n (if b then numbered start w ∷ xs else xs) ≡ []
    by true xs out rest = ap (λ (t : Bool). if t then numbered start w ∷ below n xs else below n xs) out ∙ rest
    by false xs out rest = rest

-- a line after the first writes is told by the part of its channel
pub told : (channel_of : ℕ → ℕ) (start n line : ℕ) (base : List (List ℕ)) (ws : List Write)
    → line_of (memory_at base start ws n) line ≡ line_of (after base (writes_of (below n (written_on channel_of (channel_of line) start ws)))) line
told channel_of start n line base [] = ap (λ (vs : List Write). line_of (after base vs) line) (none (n - start))
  where
    no_write : List Write
    no_write = []

    none : (k : ℕ) → take k no_write ≡ no_write
    none zero = refl
    none (suc k) = refl
told channel_of start n line base (w ∷ ws) =
    ⊎_elim
    (λ (less : n ≤ start).
    let zero_it : n - start ≡ 0 = omega (arith, less) in
    ap (λ (k : ℕ). line_of (after base (take k (w ∷ ws))) line) zero_it
    ∙ sym (ap (λ (p : List Numbered). line_of (after base (writes_of p)) line) (nothing_below channel_of (channel_of line) start n (w ∷ ws) less)))
    (λ (more : start < n).
    let one : n - start ≡ suc (n - (start + 1)) = omega (arith, more) in
    let rest = told channel_of (start + 1) n line (after_write base w) ws in
    let in_it : nat_lt start n ≡ true = search rules in
    ap (λ (k : ℕ). line_of (after base (take k (w ∷ ws))) line) one ∙ rest
    ∙ by (channel_of w.line == channel_of line) (refl) in_it)
    (order n start)
  where
    order : (n s : ℕ) → (n ≤ s) ⊎ (s < n)
    order zero s = inl (omega arith)
    order (suc n) zero = inr (omega arith)
    order (suc n) (suc s) = ⊎_elim (λ l. inl (omega (arith, l))) (λ l. inr (omega (arith, l))) (order n s)

    part : List Numbered
    part = written_on channel_of (channel_of line) (start + 1) ws

    here : (b : Bool) → nat_lt start n ≡ true → below n (if b then numbered start w ∷ part else part) ≡ (if b then numbered start w ∷ below n part else below n part)
    here true in_it = ap (λ (t : Bool). if t then numbered start w ∷ below n part else below n part) in_it
    here false in_it = refl

    away : channel_of w.line ≢ channel_of line → w.line ≢ line
    away apart e = apart (ap channel_of e)

    by : (b : Bool) → (channel_of w.line == channel_of line) ≡ b → nat_lt start n ≡ true
        → line_of (after (after_write base w) (writes_of (below n part))) line ≡ line_of (after base (writes_of (below n (if b then numbered start w ∷ part else part)))) line
    by true is in_it = sym (ap (λ (p : List Numbered). line_of (after base (writes_of p)) line) (here true in_it))
    by false is in_it =
        same_after line (after_write base w) base (writes_of (below n part))
        (other_written line base w (away (λ e. let t : (channel_of w.line == channel_of line) ≡ true = eq-eqb (channel_of w.line) (channel_of line) e in absurd (let bad : ⊥ = cc in bad))))
