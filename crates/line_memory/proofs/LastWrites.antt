-- A line after writes has the data of the last one that names it.
use Rattle.std.proofs.Common.{◌≡◌, ℕ, ◌<◌, Bool, true, false, List, [], ◌∷◌, length, fold, refl, sym, arith, ◌∙◌, ap, subst}
use Rattle.std.specs.Prelude.{◌==◌, if◌then◌else◌, slice_index_or}
use Rattle.std.proofs.lemmas.Bool.{eqb-true, eqb-false}
use Rattle.std.proofs.lemmas.List.{length-set, get_or-set_same, get_or-set_other, get_or_default}
use Rattle.line_memory.specs.declared.Write.{Write}
use Rattle.line_memory.specs.Memory.{after, after_write, line_of}

-- a line after one write
after_one : (memory : List (List ℕ)) (w : Write) (line : ℕ) → line < length memory → line_of (after_write memory w) line ≡ (if w.line == line then w.«data» else line_of memory line)
after_one memory w line less = by_line (w.line == line) refl
  where
    by_line : (b : Bool) → (w.line == line) ≡ b → line_of (after_write memory w) line ≡ (if b then w.«data» else line_of memory line)
    by_line true is = let same : w.line ≡ line = eqb-true w.line line is in
        ap (λ (k : ℕ). line_of (after_write memory w) k) (sym same) ∙ get_or-set_same memory w.line w.«data» [] (subst (λ (k : ℕ). k < length memory) (sym same) less)
    by_line false is = get_or-set_other memory w.line line w.«data» [] (λ same. eqb-false w.line line is (sym same))

line_after_is : (writes : List Write) (memory : List (List ℕ)) (line : ℕ) → line < length memory
    → fold (λ value (w : Write). if w.line == line then w.«data» else value) (line_of memory line) writes ≡ line_of (after memory writes) line
line_after_is [] memory line less = refl
line_after_is (w ∷ ws) memory line less =
    ap (λ (first : List ℕ). fold (λ value (v : Write). if v.line == line then v.«data» else value) first ws) (sym (after_one memory w line less))
    ∙ line_after_is ws (after_write memory w) line (subst (λ (k : ℕ). line < k) (sym (length-set memory w.line w.«data»)) less)

-- the same where the line before them was read at any default
pub line_after_from : (writes : List Write) (memory : List (List ℕ)) (line : ℕ) (d : List ℕ) → line < length memory
    → fold (λ value (w : Write). if w.line == line then w.«data» else value) (slice_index_or memory line d) writes ≡ line_of (after memory writes) line
line_after_from writes memory line d less =
    ap (λ (first : List ℕ). fold (λ value (w : Write). if w.line == line then w.«data» else value) first writes) (get_or_default memory line d [] less)
    ∙ line_after_is writes memory line less

-- no write is left
pub none_more : {A B : Type 0} (f : A → B → A) (first : A) (rest : List B) → length rest ≡ 0 → fold f first rest ≡ first
none_more f first [] none = refl
none_more f first (x ∷ rest) none = absurd (omega (arith, none))
