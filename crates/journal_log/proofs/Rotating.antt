-- A ring as it is read from a place on.
use Rattle.std.proofs.Common.{◌≡◌, ℕ, ◌+◌, ◌-◌, ◌%◌, ◌<◌, ◌≤◌, inl, inr, List, ◌++◌, length, take, drop, sym, ap, ◌∙◌, arith, append_assoc, length-append, length-drop}
use Rattle.std.proofs.Math.Nat.{add-mod_left, mod-eq_of_lt, mod_self}
use Rattle.std.proofs.Math.Seq.{take-add, take-append-add, take-set-lt}
use Rattle.std.specs.Prelude.{slice_set}
use Rattle.std.proofs.lemmas.Bool.{cases_lt}
use Rattle.std.proofs.lemmas.List.{append-nil, drop-append-le, drop-drop, drop-set-add, drop-set-lt, drop_all, length-take, set-append_left, set-append_right, take-append-drop, take-append-le, take-set-le, take-take, take_all}
use Rattle.journal_log.specs.Log.{rotated}

pub length-rotated : (first : ℕ) (ring : List (List ℕ)) → length (rotated first ring) ≡ length ring
length-rotated first ring = omega (arith, length-append (drop first ring) (take first ring), length-drop first ring, length-take first ring)

-- where a place lies that is round the ring
wrapped : (at size : ℕ) → size ≤ at → at - size < size → at % size ≡ at - size
wrapped at size behind less =
    ap (λ (n : ℕ). n % size) (let e : at ≡ size + (at - size) = omega (arith, behind) in e) ∙ add-mod_left size (at - size) ∙ mod-eq_of_lt less

twice : (at size : ℕ) → at ≡ size + size → at % size ≡ 0
twice at size is = ap (λ (n : ℕ). n % size) is ∙ add-mod_left size size ∙ mod_self size

module _ (first k : ℕ) (ring : List (List ℕ)) (line : List ℕ) (place : first ≤ length ring) (here : k < length ring) where
  set_before : first + k < length ring → rotated first (slice_set ring (first + k) line) ≡ slice_set (rotated first ring) k line
  set_before before =
      ap (λ (front : List (List ℕ)). front ++ take first (slice_set ring (first + k) line)) (drop-set-add first ring k line)
      ∙ ap (λ (back : List (List ℕ)). slice_set (drop first ring) k line ++ back) (take-set-le first ring (first + k) line (omega arith))
      ∙ sym (set-append_left (drop first ring) (take first ring) k line (omega (arith, before, length-drop first ring)))

  set_behind : length ring ≤ first + k → rotated first (slice_set ring (first + k - length ring) line) ≡ slice_set (rotated first ring) k line
  set_behind behind =
      ap (λ (front : List (List ℕ)). front ++ take first (slice_set ring (first + k - length ring) line)) (drop-set-lt first ring (first + k - length ring) line (omega (arith, place, here, behind)))
      ∙ ap (λ (back : List (List ℕ)). drop first ring ++ back) (take-set-lt first ring (first + k - length ring) line (omega (arith, place, here, behind)))
      ∙ ap (λ (i : ℕ). drop first ring ++ slice_set (take first ring) i line) (let e : first + k - length ring ≡ k - (length ring - first) = omega (arith, place, behind) in e)
      ∙ sym (set-append_right (drop first ring) (take first ring) (length ring - first) k line (length-drop first ring) (omega (arith, place, behind)))

  -- a line is set where the ring has it from there on
  pub rotated-set : rotated first (slice_set ring ((first + k) % length ring) line) ≡ slice_set (rotated first ring) k line
  rotated-set =
      elim (cases_lt (first + k) (length ring)) [
        | inl before ↦ ap (λ (at : ℕ). rotated first (slice_set ring at line)) (mod-eq_of_lt before) ∙ set_before before
        | inr behind ↦
            ap (λ (at : ℕ). rotated first (slice_set ring at line)) (wrapped (first + k) (length ring) behind (omega (arith, place, here, behind)))
            ∙ set_behind behind
      ]

module _ (first c : ℕ) (ring : List (List ℕ)) (place : first ≤ length ring) (some : c ≤ length ring) where
  on_before : first + c < length ring → rotated (first + c) ring ≡ drop c (rotated first ring) ++ take c (rotated first ring)
  on_before before =
      ap (λ (back : List (List ℕ)). drop (first + c) ring ++ back) (take-add first c ring)
      ∙ sym (append_assoc (drop (first + c) ring) (take first ring) (take c (drop first ring)))
      ∙ ap (λ (front : List (List ℕ)). front ++ take first ring ++ take c (drop first ring)) (sym (drop-drop c first ring))
      ∙ ap (λ (front : List (List ℕ)). front ++ take c (drop first ring)) (sym (drop-append-le c (drop first ring) (take first ring) (omega (arith, before, length-drop first ring))))
      ∙ ap (λ (back : List (List ℕ)). drop c (rotated first ring) ++ back) (sym (take-append-le c (drop first ring) (take first ring) (omega (arith, before, length-drop first ring))))

  abbrev j : ℕ
  j = first + c - length ring

  drop_behind : length ring ≤ first + c → drop c (rotated first ring) ≡ drop j (take first ring)
  drop_behind behind =
      ap (λ (n : ℕ). drop n (rotated first ring)) (let e : c ≡ length (drop first ring) + j = omega (arith, place, behind, length-drop first ring) in e)
      ∙ sym (drop-drop j (length (drop first ring)) (rotated first ring))
      ∙ ap (drop j) (drop-append-le (length (drop first ring)) (drop first ring) (take first ring) (omega arith))
      ∙ ap (λ (front : List (List ℕ)). drop j (front ++ take first ring)) (drop_all (length (drop first ring)) (drop first ring) (omega arith))

  take_behind : length ring ≤ first + c → take c (rotated first ring) ≡ drop first ring ++ take j ring
  take_behind behind =
      ap (λ (n : ℕ). take n (rotated first ring)) (let e : c ≡ length (drop first ring) + j = omega (arith, place, behind, length-drop first ring) in e)
      ∙ take-append-add (drop first ring) (take first ring) j
      ∙ ap (λ (back : List (List ℕ)). drop first ring ++ back) (take-take j first ring (omega (arith, place, some, behind)))

  on_behind : length ring ≤ first + c → rotated j ring ≡ drop c (rotated first ring) ++ take c (rotated first ring)
  on_behind behind =
      ap (λ (all : List (List ℕ)). drop j all ++ take j ring) (sym (take-append-drop first ring))
      ∙ ap (λ (front : List (List ℕ)). front ++ take j ring) (drop-append-le j (take first ring) (drop first ring) (omega (arith, place, some, behind, length-take first ring)))
      ∙ append_assoc (drop j (take first ring)) (drop first ring) (take j ring)
      ∙ ap (λ (back : List (List ℕ)). drop j (take first ring) ++ back) (sym (take_behind behind))
      ∙ ap (λ (front : List (List ℕ)). front ++ take c (rotated first ring)) (sym (drop_behind behind))

  full_circle : length ring ≤ j → rotated 0 ring ≡ rotated j ring
  full_circle full =
      append-nil ring ∙ sym (ap (λ (front : List (List ℕ)). front ++ take j ring) (drop_all j ring full) ∙ take_all j ring full)

  -- read from some lines further on, these lines come last
  pub rotated_on : rotated ((first + c) % length ring) ring ≡ drop c (rotated first ring) ++ take c (rotated first ring)
  rotated_on =
      elim (cases_lt (first + c) (length ring)) [
        | inl before ↦ ap (λ (at : ℕ). rotated at ring) (mod-eq_of_lt before) ∙ on_before before
        | inr behind ↦ elim (cases_lt j (length ring)) [
          | inl less ↦ ap (λ (at : ℕ). rotated at ring) (wrapped (first + c) (length ring) behind less) ∙ on_behind behind
          | inr full ↦
              ap (λ (at : ℕ). rotated at ring) (twice (first + c) (length ring) (omega (arith, place, some, full, behind))) ∙ full_circle full ∙ on_behind behind
        ]
      ]
