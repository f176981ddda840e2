-- How a store is shown: the lines of its image, one after another, and what is told of it.
use Rattle.std.proofs.Common.{◌≡◌, ◌∙◌, ℕ, ◌+◌, Bool, true, false, List, [], ◌∷◌, ◌++◌, length, map, replicate, if◌then◌else◌, ap, refl, sym, arith}
use Rattle.std.specs.List.{flat_map, range_with_len}
use Rattle.std.specs.Str.{bytes_eq}
use Rattle.std.proofs.lemmas.List.{append-nil, append_assoc}
use Rattle.std.proofs.lemmas.Grind.{flat_map-append}
use Rattle.std.proofs.lemmas.List.Folds.{flat_map-map}
use Rattle.std.proofs.lemmas.List.FromFn.{map-range_with_len_more}
use Rattle.line_memory.specs.Memory.{IsMemory, line_of}
use Rattle.line_memory.specs.declared.line.TheConstants.{LINE_BYTES}
use Rattle.slot_store.specs.declared.restoring.RestoreError.{RestoreError}
use Rattle.slot_store.specs.declared.restoring.Restored.{Restored}
use Rattle.slot_store.specs.declared.restoring.Verdict.{Verdict}
use Rattle.slot_store.specs.Told.{IsRestored, image_of_restored}
use Rattle.nv_script.specs.declared.answer.Answer.{Answer}
use Rattle.nv_script.specs.declared.answer.Answer.TheVariants as answer
use Rattle.command_line.specs.Store.{IsStoreOf, IsRefusalOf, ShowsImage, TellsStore, content_of, shown_lines}

-- a line that is all zero isn't shown, and any other is
abbrev shown_if : ℕ → List ℕ → Bool → List Answer
shown_if line bytes zero = if zero then [] else answer.Content line bytes ∷ []

pub zero_unshown : (line : ℕ) (bytes : List ℕ) → bytes_eq bytes (replicate LINE_BYTES 0) ≡ true → content_of line bytes ≡ []
zero_unshown line bytes zero = ap (shown_if line bytes) zero

pub other_shown : (line : ℕ) (bytes : List ℕ) → bytes_eq bytes (replicate LINE_BYTES 0) ≡ false → content_of line bytes ≡ answer.Content line bytes ∷ []
other_shown line bytes other = ap (shown_if line bytes) other

shown_lines_grow : (memory : List (List ℕ)) (line : ℕ) → shown_lines memory (line + 1) ≡ shown_lines memory line ++ content_of line (line_of memory line)
shown_lines_grow memory line =
    let content : ℕ → List Answer = λ line. content_of line (line_of memory line) in
    let same : List Answer → List Answer = λ shown. shown in
    sym (flat_map-map same content (range_with_len 0 (line + 1)))
    ∙ ap (flat_map same) (map-range_with_len_more content 0 line line (omega arith))
    ∙ flat_map-append same (map content (range_with_len 0 line)) (content line ∷ [])
    ∙ ap (λ (front : List Answer). front ++ (content line ++ [])) (flat_map-map same content (range_with_len 0 line))
    ∙ ap (λ (last : List Answer). shown_lines memory line ++ last) (append-nil (content line))

pub one_more : (memory : List (List ℕ)) (line : ℕ) (first before after : List Answer) → before ≡ first ++ shown_lines memory line
    → after ≡ before ++ content_of line (line_of memory line) → after ≡ first ++ shown_lines memory (line + 1)
one_more memory line first before after so_far told =
    told ∙ ap (λ (front : List Answer). front ++ content_of line (line_of memory line)) so_far
    ∙ append_assoc first (shown_lines memory line) (content_of line (line_of memory line))
    ∙ ap (λ (answers : List Answer). first ++ answers) (sym (shown_lines_grow memory line))

-- this was told of a store
abbrev pub Tells : List ℕ → Bool → List Answer → List Answer → Type 0
Tells bytes shown before after = (answers : List Answer) × TellsStore bytes shown answers × (after ≡ before ++ answers)

pub tells_refusal : (bytes : List ℕ) (error : RestoreError) (before after : List Answer) → IsRefusalOf bytes error
    → after ≡ before ++ answer.RestoreRefused error ∷ [] → Tells bytes false before after
tells_refusal bytes error before after why told = (answer.RestoreRefused error ∷ [], (error, why, refl), told)

-- the answer to the restore
abbrev head_told : Restored → Answer
head_told it = answer.Restored it.head.newest.generation it.head.count it.head.verdict

image_shown : (bytes : List ℕ) (lines : ℕ) (it : Restored) → IsStoreOf (length bytes) lines → IsRestored it lines bytes
    → ShowsImage bytes (head_told it ∷ shown_lines it.lines.items lines)
image_shown bytes lines it size found = record {
  lines = lines;
  size = size;
  slot = it.head.newest.slot;
  image = image_of_restored it found.arm;
  finds = found.newest;
  told = ap (λ (verdict : Verdict). answer.Restored it.head.newest.generation it.head.count verdict ∷ shown_lines it.lines.items lines) found.judged;
}

pub shows_image : (bytes : List ℕ) (lines : ℕ) (it : Restored) (before first after : List Answer) → IsStoreOf (length bytes) lines
    → IsRestored it lines bytes → IsMemory lines it.lines.items → first ≡ before ++ head_told it ∷ []
    → after ≡ first ++ shown_lines it.lines.items (length it.lines.items) → Tells bytes true before after
shows_image bytes lines it before first after size found whole head rest =
    let memory = it.lines.items in (
      head_told it ∷ shown_lines memory lines,
      image_shown bytes lines it size found,
      rest ∙ ap (λ (front : List Answer). front ++ shown_lines memory (length memory)) head
          ∙ ap (λ (n : ℕ). before ++ head_told it ∷ [] ++ shown_lines memory n) whole.size
          ∙ append_assoc before (head_told it ∷ []) (shown_lines memory lines),
    )
