-- Which journal a memory holds, from its head and its lines.
use Rattle.std.proofs.Common.{◌≡◌, ◌∙◌, ◌+◌, ◌<◌, ◌≤◌, ◌^◌, ℕ, List, ap, arith, drop, length, subst, sym, take}
use Rattle.std.specs.Int.{w64, from_le_bytes}
use Rattle.std.specs.Prelude.{IfNone, IfSome, None, Option, Some}
use Rattle.line_memory.specs.Memory.{line_of}
use Rattle.journal_log.specs.Lines.{sizes_of, spelled}
use Rattle.journal_log.specs.Log.{Holds, Log, head_line, ring_of, rotated, used_by}
use Rattle.journal_lines.specs.Places.{HeadFits}
use Rattle.journal_lines.specs.Scanning.{lines_in_use}
use Rattle.journal_lines.proofs.Ringing.{length-in_use}
use Rattle.journal_lines.proofs.Words.{first_word, second_word, third_word}

module _ (memory : List (List ℕ)) (gone first used : ℕ) (head : line_of memory 0 ≡ head_line gone first used) (fits : HeadFits gone first used (length memory)) where
  -- the lines in use are those of these records
  pub held : (records : List (List ℕ)) → lines_in_use memory first used ≡ spelled records → Holds memory (record { gone = gone; first = first; records = records })
  held records are =
      let long : used ≡ sizes_of records = sym (length-in_use memory first used fits.room) ∙ ap length are in
      record {
        head = head ∙ ap (head_line gone first) long;
        place = fits.place;
        room = subst (λ (n : ℕ). n < length memory) long fits.room;
        numbers = subst (λ (n : ℕ). gone + n < 2 ^ 64) long fits.numbers;
        lines = ap (λ (n : ℕ). take n (rotated first (ring_of memory))) (sym long) ∙ are;
      }

-- the numbers of a journal's head
module _ (memory : List (List ℕ)) (log : Log) (h : Holds memory log) (small : length memory ≤ 2 ^ 64) where
  pub fit : HeadFits log.gone log.first (used_by log) (length memory)
  fit = record { place = h.place; room = h.room; numbers = h.numbers }

  module _ (gone first used : ℕ) (head : line_of memory 0 ≡ head_line gone first used) (gone_fits : gone < 2 ^ 64) (first_fits : first < 2 ^ 64) (used_fits : used < 2 ^ 64) where
    same : head_line log.gone log.first (used_by log) ≡ head_line gone first used
    same = sym h.head ∙ head

    pub gone_is : log.gone ≡ gone
    gone_is = sym (first_word log.gone log.first (used_by log) (omega (arith, h.numbers))) ∙ ap (λ (line : List ℕ). from_le_bytes w64 (take 8 (drop 0 line))) same ∙ first_word gone first used gone_fits

    pub first_is : log.first ≡ first
    first_is = sym (second_word log.gone log.first (used_by log) (omega (arith, h.place, small))) ∙ ap (λ (line : List ℕ). from_le_bytes w64 (take 8 (drop 8 line))) same ∙ second_word gone first used first_fits

    pub used_is : used_by log ≡ used
    used_is = sym (third_word log.gone log.first (used_by log) (omega (arith, h.numbers))) ∙ ap (λ (line : List ℕ). from_le_bytes w64 (take 8 (drop 16 line))) same ∙ third_word gone first used used_fits

    pub lines_are : lines_in_use memory first used ≡ spelled log.records
    lines_are = ap (λ (n : ℕ). take n (rotated first (ring_of memory))) (sym used_is) ∙ ap (λ (n : ℕ). take (used_by log) (rotated n (ring_of memory))) (sym first_is) ∙ h.lines

-- what is said of what was found, and of nothing found
pub some_found : {X : Type 0} (found : Option X) (x : X) (P : X → Type 0) → found ≡ Some x → IfSome found P → P x
some_found found x P is so = subst (λ o. IfSome o P) is so

pub none_found : {X : Type 0} (found : Option X) (Q : Type 0) → found ≡ None → IfNone found Q → Q
none_found found Q is so = subst (λ o. IfNone o Q) is so
