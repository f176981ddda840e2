-- What lines that are written one behind another in a ring leave.
use Rattle.std.proofs.Common.{◌≡◌, ℕ, zero, suc, ◌+◌, ◌-◌, ◌%◌, ◌<◌, ◌≤◌, List, [], ◌∷◌, ◌++◌, length, take, refl, sym, ap, ◌∙◌, arith, append_assoc, length-drop, length-set, get_or-set_other}
use Rattle.std.specs.Prelude.{slice_set}
use Rattle.std.proofs.lemmas.List.{append-nil, drop-set-add, take-set-le, take_more_set}
use Rattle.line_memory.specs.declared.Write.{Write}
use Rattle.line_memory.specs.Memory.{after, after_write, line_of}
use Rattle.journal_log.specs.Log.{ring_of, rotated}
use Rattle.journal_log.specs.Calls.{placed}
use Rattle.journal_log.proofs.Rotating.{length-rotated, rotated-set}

pub length-after : (memory : List (List ℕ)) (writes : List Write) → length (after memory writes) ≡ length memory
length-after memory [] = refl
length-after memory (w ∷ ws) = length-after (after_write memory w) ws ∙ length-set memory w.line w.«data»

pub length-placed : (lines at : ℕ) (written : List (List ℕ)) → length (placed lines at written) ≡ length written
length-placed lines at [] = refl
length-placed lines at (line ∷ rest) = ap suc (length-placed lines (at + 1) rest)

-- one line behind so many from the first one on
module _ (memory : List (List ℕ)) (first from : ℕ) (line : List ℕ) (place : first < length memory) (fits : from < length memory - 1) where
  abbrev set_there : List (List ℕ)
  set_there = slice_set memory (1 + (first + from) % (length memory - 1)) line

  pub one-placed : rotated first (ring_of set_there) ≡ slice_set (rotated first (ring_of memory)) from line
  one-placed =
      ap (rotated first) (drop-set-add 1 memory ((first + from) % (length memory - 1)) line)
      ∙ ap (λ (n : ℕ). rotated first (slice_set (ring_of memory) ((first + from) % n) line)) (sym (length-drop 1 memory))
      ∙ rotated-set first from (ring_of memory) line (omega (arith, place, length-drop 1 memory)) (omega (arith, fits, length-drop 1 memory))

-- the head stays
pub head-placed : (k at : ℕ) (written memory : List (List ℕ)) (lines : ℕ) → line_of (after memory (take k (placed lines at written))) 0 ≡ line_of memory 0
head-placed zero at written memory lines = refl
head-placed (suc k) at [] memory lines = refl
head-placed (suc k) at (line ∷ rest) memory lines =
    head-placed k (at + 1) rest (slice_set memory (1 + at % (lines - 1)) line) lines
    ∙ get_or-set_other memory (1 + at % (lines - 1)) 0 line [] (omega arith)

module _ (lines first : ℕ) (place : first < lines) where
  -- the lines before them stay
  pub take-placed : (k from : ℕ) (written memory : List (List ℕ)) (below : ℕ) → length memory ≡ lines → from + length written < lines → below ≤ from
      → take below (rotated first (ring_of (after memory (take k (placed lines (first + from) written))))) ≡ take below (rotated first (ring_of memory))
  take-placed zero from written memory below long fits less = refl
  take-placed (suc k) from [] memory below long fits less = refl
  take-placed (suc k) from (line ∷ rest) memory below long fits less =
      ap (λ (at : ℕ). take below (rotated first (ring_of (after (slice_set memory (1 + (first + from) % (lines - 1)) line) (take k (placed lines at rest)))))) (let e : first + from + 1 ≡ first + (from + 1) = omega arith in e)
      ∙ take-placed k (from + 1) rest (slice_set memory (1 + (first + from) % (lines - 1)) line) below (length-set memory (1 + (first + from) % (lines - 1)) line ∙ long) (omega (arith, fits)) (omega (arith, less))
      ∙ ap (λ (n : ℕ). take below (rotated first (ring_of (slice_set memory (1 + (first + from) % (n - 1)) line)))) (sym long)
      ∙ ap (take below) (one-placed memory first from line (omega (arith, place, long)) (omega (arith, fits, long)))
      ∙ take-set-le below (rotated first (ring_of memory)) from line less

  -- and they follow them
  pub all-placed : (from : ℕ) (written memory : List (List ℕ)) → length memory ≡ lines → from + length written < lines
      → take (from + length written) (rotated first (ring_of (after memory (placed lines (first + from) written)))) ≡ take from (rotated first (ring_of memory)) ++ written
  all-placed from [] memory long fits =
      ap (λ (n : ℕ). take n (rotated first (ring_of memory))) (let e : from + 0 ≡ from = omega arith in e) ∙ sym (append-nil (take from (rotated first (ring_of memory))))
  all-placed from (line ∷ rest) memory long fits =
      ap (λ (n : ℕ). take n (rotated first (ring_of (after memory (placed lines (first + from) (line ∷ rest)))))) (let e : from + suc (length rest) ≡ from + 1 + length rest = omega arith in e)
      ∙ ap (λ (at : ℕ). take (from + 1 + length rest) (rotated first (ring_of (after (slice_set memory (1 + (first + from) % (lines - 1)) line) (placed lines at rest))))) (let e : first + from + 1 ≡ first + (from + 1) = omega arith in e)
      ∙ all-placed (from + 1) rest (slice_set memory (1 + (first + from) % (lines - 1)) line) (length-set memory (1 + (first + from) % (lines - 1)) line ∙ long) (omega (arith, fits))
      ∙ ap (λ (n : ℕ). take (from + 1) (rotated first (ring_of (slice_set memory (1 + (first + from) % (n - 1)) line))) ++ rest) (sym long)
      ∙ ap (λ (ring : List (List ℕ)). take (from + 1) ring ++ rest) (one-placed memory first from line (omega (arith, place, long)) (omega (arith, fits, long)))
      ∙ ap (λ (front : List (List ℕ)). front ++ rest) (take_more_set (rotated first (ring_of memory)) from line (omega (arith, fits, long, length-rotated first (ring_of memory), length-drop 1 memory)))
      ∙ append_assoc (take from (rotated first (ring_of memory))) (line ∷ []) rest
