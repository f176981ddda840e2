-- What a queue keeps of its requests, as it grows, shrinks and is held.
use Rattle.std.proofs.Common.{◌≡◌, ◌≢◌, ℕ, ◌+◌, ◌<◌, ◌↔◌, List, [], ◌∷◌, ◌++◌, Option, map, IsTrue, ap, ◌∙◌, arith, slice_get, Some, length, All, refl, remove}
use Rattle.std.proofs.lemmas.Option.{slice_get-get_or, slice_get_within}
use Rattle.std.proofs.lemmas.List.{length-map, map-append}
use Rattle.gap_list.specs.Bounded.{Bounded}
use Rattle.frfcfs.specs.LineCounts.{AreCounts}
use Rattle.frfcfs.specs.declared.line_counts.LineCounts.{LineCounts}
use Rattle.request_notes.specs.declared.notebook.Notebook.{Notebook}
use Rattle.request_notes.specs.Notebook.{KeepsNotes}
use Rattle.frfcfs.proofs.Common.{AreKeys, AreToldBy, IsKeyOf, KeepsRequests, Key, MarksOldest, Pending, Waiting, firsts_of, held_by, numbered_from}
use Rattle.frfcfs.proofs.KeepLemmas.{lines_numbered, waiting_numbered}
use Rattle.frfcfs.proofs.KeyLemmas.{firsts_remove, keys_held, keys_numbered, keys_push, keys_remove, new_line, oldest_key}
use Rattle.frfcfs.proofs.QueueLemmas.{line_at, lines, lines_held, lines_remove, waiting_held, request_push, request_take, waiting_push, waiting_take}

-- no request
pub kept_none : (most : ℕ) (counts : LineCounts) (notes : Notebook) → AreCounts [] counts → KeepsNotes [] notes → KeepsRequests (record { most = most; next = 0; requests = [] }) (record { most = most; items = [] }) counts notes
kept_none most counts notes counted noted = record {
  waiting = record { order = λ i j d less within. absurd (omega (arith, within)); before = λ i d within. absurd (omega (arith, within)); few = omega arith };
  marks = record { size = refl; each = λ i within. absurd (omega (arith, within)) };
  keyed = record { size = refl; each = λ i p k within. absurd (omega (arith, within)) };
  room = refl;
  counted = counted;
  noted = noted;
}

-- one more at the end
pub kept_push : (w : Waiting) (keys : Bounded Key) (p : Pending) (k : Key) (counts more : LineCounts) (notes after : Notebook) → KeepsRequests w keys counts notes → length w.requests < w.most → p.seq ≡ w.next → (IsTrue k.first ↔ All (λ key. key.line ≢ p.line) keys.items) → IsKeyOf p k
    → ((ns : List ℕ) → AreCounts ns counts → AreCounts (ns ++ p.line ∷ []) more) → KeepsNotes (keys.items ++ k ∷ []) after
    → KeepsRequests (record { most = w.most; next = w.next + 1; requests = w.requests ++ p ∷ [] }) (record keys { items = keys.items ++ k ∷ [] }) more after
kept_push w keys p k counts more notes after kept room seq here own counted noted =
    let same = new_line p.line w.requests keys.items kept.keyed in
    record {
      waiting = waiting_push w p kept.waiting seq room;
      marks = rw (map-append (λ (x : Key). x.first) keys.items (k ∷ [])) (request_push w.requests p (firsts_of keys.items) k.first kept.marks (λ t. same.0 (here.0 t), λ n. here.1 (same.1 n)));
      keyed = keys_push w.requests keys.items p k kept.keyed own;
      room = kept.room;
      counted = rw (map-append (λ (q : Pending). q.line) w.requests (p ∷ [])) (counted (lines w.requests) kept.counted);
      noted = noted;
    }

-- the line of a request that stands somewhere
pub line_there : (requests : List Pending) (i : ℕ) (p : Pending) → slice_get requests i ≡ Some p → slice_get (lines requests) i ≡ Some p.line
line_there requests i p at =
    slice_get-get_or (lines requests) i 0 (omega (arith, slice_get_within requests i p at, length-map requests (λ (q : Pending). q.line))) ∙ ap Some (line_at requests i p at)

-- one taken out, and the next one of its line marked
pub kept_take : (w : Waiting) (keys marked : Bounded Key) (i : ℕ) (p : Pending) (counts less : LineCounts) (notes after : Notebook) → KeepsRequests w keys counts notes → slice_get w.requests i ≡ Some p → marked.most ≡ keys.most
    → ((ns : List ℕ) (place : ℕ) → slice_get ns place ≡ Some p.line → AreCounts ns counts → AreCounts (remove ns place) less)
    → ((requests : List Pending) → AreKeys requests (remove keys.items i) → AreCounts (lines requests) less → MarksOldest p.line (remove keys.items i) (firsts_of (remove keys.items i)) (firsts_of marked.items))
    → ((requests : List Pending) → AreKeys requests (remove keys.items i) → AreKeys requests marked.items)
    → KeepsNotes marked.items after → KeepsRequests (record w { requests = remove w.requests i }) marked less after
kept_take w keys marked i p counts less notes after kept at most forgets marks_oldest stay noted =
    let within = slice_get_within w.requests i p at in
    let left = keys_remove w.requests keys.items i kept.keyed within in
    let counted : AreCounts (lines (remove w.requests i)) less = rw (lines_remove w.requests i) (forgets (lines w.requests) i (line_there w.requests i p at) kept.counted) in
    let (place, oldest, marks) = marks_oldest (remove w.requests i) left counted in
    record {
      waiting = waiting_take w i kept.waiting within;
      marks = request_take w.requests (firsts_of keys.items) (firsts_of marked.items) i p.line place kept.marks within (line_at w.requests i p at) (oldest_key p.line (remove w.requests i) (remove keys.items i) place left oldest)
          (rw (← firsts_remove keys.items i) marks);
      keyed = stay (remove w.requests i) left;
      room = most ∙ kept.room;
      counted = counted;
      noted = noted;
    }

-- each is held or not, and each is numbered anew

pub kept_held : (hold : Option ℕ) (w : Waiting) (keys new : Bounded Key) (counts : LineCounts) (notes after : Notebook) → KeepsRequests w keys counts notes → new.most ≡ keys.most → AreToldBy (map (held_by hold) w.requests) keys.items new.items → KeepsNotes new.items after
    → KeepsRequests (record w { requests = map (held_by hold) w.requests }) new counts after
kept_held hold w keys new counts notes after kept most told noted = record {
  waiting = waiting_held w hold kept.waiting;
  marks = rw (lines_held hold w.requests, told.firsts) kept.marks;
  keyed = keys_held hold w.requests keys.items new.items told kept.keyed;
  room = most ∙ kept.room;
  counted = rw (lines_held hold w.requests) kept.counted;
  noted = noted;
}

pub kept_numbered : (w : Waiting) (keys new : Bounded Key) (counts : LineCounts) (notes after : Notebook) → KeepsRequests w keys counts notes → new.most ≡ keys.most → AreToldBy (numbered_from 0 w.requests) keys.items new.items → KeepsNotes new.items after
    → KeepsRequests (record { most = w.most; next = length w.requests; requests = numbered_from 0 w.requests }) new counts after
kept_numbered w keys new counts notes after kept most told noted = record {
  waiting = waiting_numbered w kept.waiting;
  marks = rw (lines_numbered 0 w.requests, told.firsts) kept.marks;
  keyed = keys_numbered w.requests keys.items new.items told kept.keyed;
  room = most ∙ kept.room;
  counted = rw (lines_numbered 0 w.requests) kept.counted;
  noted = noted;
}
