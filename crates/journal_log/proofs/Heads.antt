-- What the writes of one call leave.
use Rattle.std.proofs.Common.{◌≡◌, ℕ, ◌+◌, ◌-◌, ◌%◌, ◌<◌, ◌≤◌, ◌^◌, List, [], ◌∷◌, ◌++◌, length, take, drop, refl, sym, ap, subst, ◌∙◌, arith, length-append, length-drop, length-set}
use Rattle.std.specs.Prelude.{slice_set}
use Rattle.std.proofs.lemmas.Nat.{mod_below}
use Rattle.std.proofs.lemmas.List.{drop-set-lt, drop-take, get_or-set_same, length-take-le, take-append-le}
use Rattle.std.proofs.Math.Seq.{drop-append_seam}
use Rattle.std.proofs.lemmas.List.Sums.{fold-append}
use Rattle.line_memory.specs.declared.Write.{Write}
use Rattle.line_memory.specs.Memory.{after, after_write, line_of}
use Rattle.journal_log.specs.Lines.{lines_of, sizes_of, spelled}
use Rattle.journal_log.specs.Log.{Holds, Log, head_of, ring_of, rotated, used_by}
use Rattle.journal_log.specs.Calls.{Call, Append, Truncate, IsAllowed, call_writes, head_write, lines_before_head, log_after, placed, writes_of_call}
use Rattle.journal_log.proofs.Spelling.{length-lines_of, sizes-least, sizes-parts, sizes-push, spelled-parts, spelled-push}
use Rattle.journal_log.proofs.Rotating.{length-rotated, rotated_on}
use Rattle.journal_log.proofs.Placing.{all-placed, head-placed, length-after, length-placed, take-placed}

pub length-call : (lines : ℕ) (log : Log) (call : Call) → length (call_writes lines log call) ≡ writes_of_call call
length-call lines log call =
    length-append (placed lines (log.first + used_by log) (lines_before_head call)) (head_write (log_after lines log call) ∷ [])
    ∙ ap (λ (n : ℕ). n + 1) (length-placed lines (log.first + used_by log) (lines_before_head call))

-- where the head and the lines in use stay, the journal does
quiet : (m n : List (List ℕ)) (log : Log) → Holds m log → length n ≡ length m → line_of n 0 ≡ line_of m 0
    → take (used_by log) (rotated log.first (ring_of n)) ≡ take (used_by log) (rotated log.first (ring_of m)) → Holds n log
quiet m n log h long head lines = record {
  head = head ∙ h.head;
  place = subst (λ (k : ℕ). log.first < k) (sym long) h.place;
  room = subst (λ (k : ℕ). used_by log < k) (sym long) h.room;
  numbers = h.numbers;
  lines = lines ∙ h.lines;
}

-- there is room for the lines that a call writes
fits : (m : List (List ℕ)) (log : Log) (call : Call) → Holds m log → IsAllowed (length m) log call → used_by log + length (lines_before_head call) < length m
fits m log (Append bytes) h allowed = omega (arith, allowed.0, length-lines_of bytes)
fits m log (Truncate upto) h allowed = omega (arith, h.room)

-- a first part of a call's writes, without its head
pub unheaded : (m : List (List ℕ)) (log : Log) (call : Call) (k : ℕ) → Holds m log → IsAllowed (length m) log call → k ≤ length (lines_before_head call)
    → Holds (after m (take k (call_writes (length m) log call))) log
unheaded m log call k h allowed few =
    let written : List Write = placed (length m) (log.first + used_by log) (lines_before_head call) in
    let part : take k (call_writes (length m) log call) ≡ take k written =
    take-append-le k written (head_write (log_after (length m) log call) ∷ []) (omega (arith, few, length-placed (length m) (log.first + used_by log) (lines_before_head call))) in
    subst (λ (ws : List Write). Holds (after m ws) log) (sym part)
    (quiet m (after m (take k written)) log h (length-after m (take k written))
    (head-placed k (log.first + used_by log) (lines_before_head call) m (length m))
    (take-placed (length m) log.first h.place k (used_by log) (lines_before_head call) m (used_by log) refl (fits m log call h allowed) (omega arith)))

-- a head behind lines that were written
module _ (m n : List (List ℕ)) (log new : Log) (long : length n ≡ length m) (place : new.first < length m) (room : used_by new < length m) (numbers : new.gone + used_by new < 2 ^ 64)
    (lines : take (used_by new) (rotated new.first (ring_of n)) ≡ spelled new.records) where
  headed : Holds (slice_set n 0 (head_of new)) new
  headed = record {
    head = get_or-set_same n 0 (head_of new) [] (omega (arith, long, room));
    place = omega (arith, place, long, length-set n 0 (head_of new));
    room = omega (arith, room, long, length-set n 0 (head_of new));
    numbers = numbers;
    lines = ap (λ (ring : List (List ℕ)). take (used_by new) (rotated new.first ring)) (drop-set-lt 1 n 0 (head_of new) (omega arith)) ∙ lines;
  }

module _ (m : List (List ℕ)) (log : Log) (h : Holds m log) where
  -- a record behind the others
  module _ (bytes : List ℕ) (allowed : IsAllowed (length m) log (Append bytes)) where
    abbrev with_lines : List (List ℕ)
    with_lines = after m (placed (length m) (log.first + used_by log) (lines_of bytes))

    record_lines : take (sizes_of (log.records ++ bytes ∷ [])) (rotated log.first (ring_of with_lines)) ≡ spelled (log.records ++ bytes ∷ [])
    record_lines =
        ap (λ (k : ℕ). take k (rotated log.first (ring_of with_lines))) (sizes-push log.records bytes ∙ ap (λ (k : ℕ). used_by log + k) (sym (length-lines_of bytes)))
        ∙ all-placed (length m) log.first h.place (used_by log) (lines_of bytes) m refl (fits m log (Append bytes) h allowed)
        ∙ ap (λ (front : List (List ℕ)). front ++ lines_of bytes) h.lines
        ∙ sym (spelled-push log.records bytes)

    appended : Holds (slice_set with_lines 0 (head_of (log_after (length m) log (Append bytes)))) (log_after (length m) log (Append bytes))
    appended = headed m with_lines log (log_after (length m) log (Append bytes)) (length-after m (placed (length m) (log.first + used_by log) (lines_of bytes)))
        h.place (omega (arith, sizes-push log.records bytes, allowed.0)) (omega (arith, sizes-push log.records bytes, allowed.1)) record_lines

  -- records that go
  module _ (upto : ℕ) (allowed : IsAllowed (length m) log (Truncate upto)) where
    abbrev cut : ℕ
    cut = upto - log.gone

    abbrev c : ℕ
    c = sizes_of (take cut log.records)

    abbrev new : Log
    new = log_after (length m) log (Truncate upto)

    some_used : 1 ≤ used_by log
    some_used = omega (arith, allowed.0, allowed.1, sizes-least log.records)

    parts : used_by log ≡ c + used_by new
    parts = sizes-parts cut log.records

    counted : cut ≤ c
    counted = omega (arith, sizes-least (take cut log.records), length-take-le cut log.records (omega (arith, allowed.1)))

    other_lines : take (used_by new) (rotated new.first (ring_of m)) ≡ spelled new.records
    other_lines =
        ap (λ (n : ℕ). take (used_by new) (rotated ((log.first + c) % n) (ring_of m))) (sym (length-drop 1 m))
        ∙ ap (take (used_by new)) (rotated_on log.first c (ring_of m) (omega (arith, h.place, length-drop 1 m)) (omega (arith, parts, h.room, length-drop 1 m)))
        ∙ take-append-le (used_by new) (drop c (rotated log.first (ring_of m))) (take c (rotated log.first (ring_of m)))
        (omega (arith, parts, h.room, length-drop 1 m, length-drop c (rotated log.first (ring_of m)), length-rotated log.first (ring_of m)))
        ∙ sym (drop-take c (used_by new) (rotated log.first (ring_of m)))
        ∙ ap (λ (n : ℕ). drop c (take n (rotated log.first (ring_of m)))) (sym parts)
        ∙ ap (drop c) (h.lines ∙ spelled-parts cut log.records)
        ∙ drop-append_seam (spelled (take cut log.records)) (spelled (drop cut log.records))

    truncated : Holds (slice_set m 0 (head_of new)) new
    truncated = headed m m log new refl
        (omega (arith, some_used, h.room, mod_below (log.first + c) (length m - 1) (omega (arith, some_used, h.room))))
        (omega (arith, parts, h.room)) (omega (arith, parts, counted, h.numbers, allowed.0)) other_lines

-- all writes of a call
pub headed_call : (m : List (List ℕ)) (log : Log) (call : Call) → Holds m log → IsAllowed (length m) log call
    → Holds (after m (call_writes (length m) log call)) (log_after (length m) log call)
headed_call m log (Append bytes) h allowed =
    subst (λ (n : List (List ℕ)). Holds n (log_after (length m) log (Append bytes)))
    (sym (fold-append after_write m (placed (length m) (log.first + used_by log) (lines_of bytes)) (head_write (log_after (length m) log (Append bytes)) ∷ [])))
    (appended m log h bytes allowed)
headed_call m log (Truncate upto) h allowed = truncated m log h upto allowed
