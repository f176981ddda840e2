-- What a save that runs has digested.
use Rattle.std.proofs.Math.Seq.{take-add}
use Rattle.std.proofs.lemmas.List.{take_all}
use Rattle.std.proofs.lemmas.List.Folds.{concat-append}
use Rattle.save_image.specs.Body.{bytes_of, page_of}
use Rattle.slot_store.specs.Changes.{body_bytes}
use Rattle.slot_store.specs.Slots.{IsCapacity}
use Rattle.slot_store.specs.Steps.{lines_before}
use Rattle.slot_store.proofs.Common.{if◌then◌else◌, ℕ, ◌*◌, ◌++◌, ◌+◌, ◌∙◌, ◌≡◌, ◌≤◌, Bool, Close, Done, GivesPage, Header, IsMemory, List, Open, Page, Step, SyncBody, SyncClosed, SyncOpen, ap, append-nil, arith, drop, inl, inr, reach_of, step_after, sym, take}
use Rattle.slot_store.proofs.Standing.{below_or_not}

module _ (lines : ℕ) (memory : List (List ℕ)) (capacity : IsCapacity lines) (page : List ℕ) where
  -- the bytes before a page, and the page
  page_more : (k : ℕ) → page ≡ page_of k memory → bytes_of (take (64 * k) memory) ++ page ≡ bytes_of (take (64 * (k + 1)) memory)
  page_more k is =
      ap (λ (bytes : List ℕ). bytes_of (take (64 * k) memory) ++ bytes) is
      ∙ sym (concat-append (take (64 * k) memory) (take 64 (drop (64 * k) memory)))
      ∙ ap bytes_of (sym (take-add (64 * k) 64 memory)) ∙ ap (λ (n : ℕ). bytes_of (take n memory)) (let e : 64 * k + 64 ≡ 64 * (k + 1) = omega arith in e)

  -- what a step writes of the body is what stands between two steps
  pub digested_on : (next : Step) → reach_of next ≤ lines → GivesPage memory next page
      → bytes_of (take (lines_before lines next) memory) ++ body_bytes next page ≡ bytes_of (take (lines_before lines (step_after lines next)) memory)
  digested_on Close reach gives = append-nil (bytes_of (take 0 memory))
  digested_on SyncClosed reach gives = append-nil (bytes_of (take 0 memory))
  digested_on (Page k) reach gives =
      page_more k gives ∙ elim (below_or_not lines (64 * (k + 2))) [
        | inl last ↦
            ap (λ (n : ℕ). bytes_of (take n memory)) (let e : 64 * (k + 1) ≡ lines = omega (arith, last.1, capacity.whole) in e)
            ∙ ap (λ (b : Bool). bytes_of (take (lines_before lines (if b then Header else Page (k + 1))) memory)) (sym last.0)
        | inr further ↦ ap (λ (b : Bool). bytes_of (take (lines_before lines (if b then Header else Page (k + 1))) memory)) (sym further.0)
      ]
  digested_on Header reach gives = append-nil (bytes_of (take lines memory))
  digested_on SyncBody reach gives = append-nil (bytes_of (take lines memory))
  digested_on Open reach gives = append-nil (bytes_of (take lines memory))
  digested_on SyncOpen reach gives = append-nil (bytes_of (take lines memory))
  digested_on Done reach gives = append-nil (bytes_of (take lines memory))

-- before the header is written all lines were
pub all_lines : (lines : ℕ) (memory : List (List ℕ)) (next : Step) → IsMemory lines memory → next ≡ Header → bytes_of (take (lines_before lines next) memory) ≡ bytes_of memory
all_lines lines memory next is at =
    ap (λ (step : Step). bytes_of (take (lines_before lines step) memory)) at ∙ ap bytes_of (take_all lines memory (omega (arith, is.size)))
