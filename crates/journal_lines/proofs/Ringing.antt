-- The lines in use, one by one.
use Rattle.std.proofs.Common.{◌≡◌, ◌==◌, ℕ, suc, ◌+◌, ◌-◌, ◌%◌, ◌<◌, ◌≤◌, inl, inr, Bool, true, false, List, [], ◌∷◌, ◌++◌, length, take, drop, get_or, sym, ap, subst, ◌∙◌, arith, append_assoc, length-drop, drop-cons}
use Rattle.std.specs.Prelude.{slice_index, if◌then◌else◌}
use Rattle.std.proofs.Math.Nat.{add-mod_left, mod-eq_of_lt}
use Rattle.std.proofs.lemmas.Bool.{cases_lt, eqb-true, false_from_ne_true}
use Rattle.std.proofs.lemmas.Grind.{get_or_after_one}
use Rattle.std.proofs.lemmas.List.{get_or-append-add, get_or-drop, get_or-take, get_or_append_left, length-take-le}
use Rattle.journal_log.specs.Log.{ring_of, rotated}
use Rattle.journal_log.proofs.Rotating.{length-rotated}
use Rattle.journal_lines.specs.Scanning.{first_of, held_by, lines_in_use}

wrapped : (at size : ℕ) → size ≤ at → at - size < size → at % size ≡ at - size
wrapped at size behind less =
    ap (λ (n : ℕ). n % size) (let e : at ≡ size + (at - size) = omega (arith, behind) in e) ∙ add-mod_left size (at - size) ∙ mod-eq_of_lt less

module _ (first k : ℕ) (ring : List (List ℕ)) (place : first ≤ length ring) (here : k < length ring) where
  read_before : first + k < length ring → get_or ring (first + k) [] ≡ get_or (rotated first ring) k []
  read_before before =
      sym (get_or-drop first ring k []) ∙ sym (get_or_append_left (drop first ring) (take first ring) [] k (omega (arith, before, length-drop first ring)))

  read_behind : length ring ≤ first + k → get_or ring (first + k - length ring) [] ≡ get_or (rotated first ring) k []
  read_behind behind =
      sym (get_or-take first ring (first + k - length ring) [] (omega (arith, place, here, behind)))
      ∙ sym (get_or-append-add (drop first ring) (take first ring) (first + k - length ring) [])
      ∙ ap (λ (n : ℕ). get_or (rotated first ring) n []) (let e : length (drop first ring) + (first + k - length ring) ≡ k = omega (arith, place, behind, length-drop first ring) in e)

  read : get_or ring ((first + k) % length ring) [] ≡ get_or (rotated first ring) k []
  read =
      elim (cases_lt (first + k) (length ring)) [
        | inl before ↦ ap (λ (at : ℕ). get_or ring at []) (mod-eq_of_lt before) ∙ read_before before
        | inr behind ↦ ap (λ (at : ℕ). get_or ring at []) (wrapped (first + k) (length ring) behind (omega (arith, place, here, behind))) ∙ read_behind behind
      ]

-- a line of the ring, as it is read from the first line in use on
pub line_read : (first k : ℕ) (memory : List (List ℕ)) → first < length memory → k < length memory - 1
    → get_or memory (1 + (first + k) % (length memory - 1)) [] ≡ get_or (rotated first (ring_of memory)) k []
line_read first k memory place here =
    sym (get_or_after_one memory ((first + k) % (length memory - 1)) [])
    ∙ ap (λ (n : ℕ). get_or (ring_of memory) ((first + k) % n) []) (sym (length-drop 1 memory))
    ∙ read first k (ring_of memory) (omega (arith, place, length-drop 1 memory)) (omega (arith, here, length-drop 1 memory))

pub length-in_use : (memory : List (List ℕ)) (first used : ℕ) → used < length memory → length (lines_in_use memory first used) ≡ used
length-in_use memory first used room =
    length-take-le used (rotated first (ring_of memory)) (omega (arith, room, length-rotated first (ring_of memory), length-drop 1 memory))

-- the lines in use from one of them on
module _ (memory : List (List ℕ)) (first used number : ℕ) (room : used < length memory) (less : number < used) where
  pub one_in_use : drop number (lines_in_use memory first used) ≡ get_or (rotated first (ring_of memory)) number [] ∷ drop (number + 1) (lines_in_use memory first used)
  one_in_use =
      drop-cons (lines_in_use memory first used) number [] (omega (arith, less, length-in_use memory first used room))
      ∙ ap (λ (line : List ℕ). line ∷ drop (suc number) (lines_in_use memory first used)) (get_or-take used (rotated first (ring_of memory)) number [] less)
      ∙ ap (λ (n : ℕ). get_or (rotated first (ring_of memory)) number [] ∷ drop n (lines_in_use memory first used)) (let e : suc number ≡ number + 1 = omega arith in e)

-- what a line adds
pub ends_here : (line : List ℕ) (lines : List (List ℕ)) → slice_index line 1 ≡ 1 → first_of (line ∷ lines) ≡ held_by line
ends_here line lines is = ap (λ (n : ℕ). if n == 1 then held_by line else held_by line ++ first_of lines) is

pub goes_on_here : (line : List ℕ) (lines : List (List ℕ)) → (slice_index line 1 == 1) ≡ false → first_of (line ∷ lines) ≡ held_by line ++ first_of lines
goes_on_here line lines is = ap (λ (b : Bool). if b then held_by line else held_by line ++ first_of lines) is

-- one line more of a record that is read
module _ (lines : List (List ℕ)) (number : ℕ) (line bytes more whole : List ℕ) (so_far : bytes ++ first_of (drop number lines) ≡ whole)
    (here : drop number lines ≡ line ∷ drop (number + 1) lines) (grown : more ≡ bytes ++ held_by line) where
  pub read_to_end : slice_index line 1 ≡ 1 → more ≡ whole
  read_to_end is =
      grown ∙ ap (λ (b : List ℕ). bytes ++ b) (sym (ends_here line (drop (number + 1) lines) is) ∙ ap first_of (sym here)) ∙ so_far

  pub read_on : (slice_index line 1 ≡ 1 → ⊥) → more ++ first_of (drop (number + 1) lines) ≡ whole
  read_on not =
      ap (λ (b : List ℕ). b ++ first_of (drop (number + 1) lines)) grown
      ∙ append_assoc bytes (held_by line) (first_of (drop (number + 1) lines))
      ∙ ap (λ (b : List ℕ). bytes ++ b)
      (sym (goes_on_here line (drop (number + 1) lines) (false_from_ne_true (slice_index line 1 == 1) (λ is. not (eqb-true (slice_index line 1) 1 is)))) ∙ ap first_of (sym here))
      ∙ so_far

-- what can't be
pub never : false ≡ true → ⊥
never is = subst by_bool is tt
  where
    by_bool : Bool → Type 0
    by_bool true = ⊥
    by_bool false = Unit {0}
