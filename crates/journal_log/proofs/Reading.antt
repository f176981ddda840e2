-- A memory holds one journal: its head and its lines say which.
use Rattle.std.proofs.Common.{◌≡◌, ◌==◌, ℕ, zero, suc, ◌-◌, ◌/◌, ◌<◌, ◌≤◌, ◌^◌, List, [], ◌∷◌, ◌++◌, length, take, drop, fold, replicate, refl, sym, ap, ◌∙◌, arith, append_assoc}
use Rattle.std.specs.Prelude.{slice_index, if◌then◌else◌}
use Rattle.std.specs.Int.{w64, from_le_bytes}
use Rattle.std.proofs.lemmas.Nat.{from_le_bytes-to_le_bytes_8}
use Rattle.std.proofs.lemmas.List.{append-nil, length-replicate, take-append-drop, take_at}
use Rattle.std.proofs.lemmas.List.Sums.{fold-append}
use Rattle.line_memory.specs.Memory.{zero_line, zero_lines}
use Rattle.journal_log.specs.Lines.{line_with, lines_from, lines_of, spelled}
use Rattle.journal_log.specs.Log.{Holds, Log, head_line, ring_of, rotated, used_by}

-- whole records, and the bytes of one that goes on
pub record Said : Type 0 where
  pub records : List (List ℕ)
  pub pending : List ℕ

abbrev said : List (List ℕ) → List ℕ → Said
said records pending = record { records = records; pending = pending }

abbrev held_by : List ℕ → List ℕ
held_by line = take (slice_index line 0) (drop 2 line)

-- what one line more says
abbrev one_line : Said → List ℕ → Said
one_line r line = if slice_index line 1 == 1 then said (r.records ++ (r.pending ++ held_by line) ∷ []) [] else said r.records (r.pending ++ held_by line)

goes_on : (records : List (List ℕ)) (pending bytes : List ℕ) → one_line (said records pending) (line_with 0 bytes) ≡ said records (pending ++ bytes)
unfolding line_with
goes_on records pending bytes = ap (λ (held : List ℕ). said records (pending ++ held)) (take_at bytes (replicate (62 - length bytes) 0) (length bytes) refl)

ends : (records : List (List ℕ)) (pending bytes : List ℕ) → one_line (said records pending) (line_with 1 bytes) ≡ said (records ++ (pending ++ bytes) ∷ []) []
unfolding line_with
ends records pending bytes = ap (λ (held : List ℕ). said (records ++ (pending ++ held) ∷ []) []) (take_at bytes (replicate (62 - length bytes) 0) (length bytes) refl)

read_from : (more : ℕ) (records : List (List ℕ)) (pending bytes : List ℕ) → fold one_line (said records pending) (lines_from more bytes) ≡ said (records ++ (pending ++ bytes) ∷ []) []
read_from zero records pending bytes = ends records pending bytes
read_from (suc more) records pending bytes =
    ap (λ (r : Said). fold one_line r (lines_from more (drop 62 bytes))) (goes_on records pending (take 62 bytes))
    ∙ read_from more records (pending ++ take 62 bytes) (drop 62 bytes)
    ∙ ap (λ (whole : List ℕ). said (records ++ whole ∷ []) []) (append_assoc pending (take 62 bytes) (drop 62 bytes) ∙ ap (λ (b : List ℕ). pending ++ b) (take-append-drop 62 bytes))

read_all : (before records : List (List ℕ)) → fold one_line (said before []) (spelled records) ≡ said (before ++ records) []
read_all before [] = ap (λ (all : List (List ℕ)). said all []) (sym (append-nil before))
read_all before (bytes ∷ records) =
    fold-append one_line (said before []) (lines_of bytes) (spelled records)
    ∙ ap (λ (r : Said). fold one_line r (spelled records)) (read_from ((length bytes - 1) / 62) before [] bytes)
    ∙ read_all (before ++ bytes ∷ []) records
    ∙ ap (λ (all : List (List ℕ)). said all []) (append_assoc before (bytes ∷ []) records)

-- the lines of records say which records they are
pub spelled-alike : (some others : List (List ℕ)) → spelled some ≡ spelled others → some ≡ others
spelled-alike some others same =
    ap (λ (r : Said). r.records) (sym (read_all [] some) ∙ ap (fold one_line (said [] [])) same ∙ read_all [] others)

same_log : (some other : Log) → some.gone ≡ other.gone → some.first ≡ other.first → some.records ≡ other.records → some ≡ other
same_log some other gone first records =
    ap (λ (n : ℕ). record { gone = n; first = some.first; records = some.records }) gone
    ∙ ap (λ (n : ℕ). record { gone = other.gone; first = n; records = some.records }) first
    ∙ ap (λ (rs : List (List ℕ)). record { gone = other.gone; first = other.first; records = rs }) records

-- a head says its numbers
abbrev word_at : ℕ → List ℕ → ℕ
word_at at head = from_le_bytes w64 (take 8 (drop at head))

first_word : (gone first used : ℕ) → gone < 2 ^ 64 → word_at 0 (head_line gone first used) ≡ gone
unfolding head_line
first_word gone first used fits = from_le_bytes-to_le_bytes_8 gone fits

second_word : (gone first used : ℕ) → first < 2 ^ 64 → word_at 8 (head_line gone first used) ≡ first
unfolding head_line
second_word gone first used fits = from_le_bytes-to_le_bytes_8 first fits

third_word : (gone first used : ℕ) → used < 2 ^ 64 → word_at 16 (head_line gone first used) ≡ used
unfolding head_line
third_word gone first used fits = from_le_bytes-to_le_bytes_8 used fits

module _ (memory : List (List ℕ)) (some other : Log) (one : Holds memory some) (two : Holds memory other) (small : length memory ≤ 2 ^ 64) where
  heads : head_line some.gone some.first (used_by some) ≡ head_line other.gone other.first (used_by other)
  heads = sym one.head ∙ two.head

  gone_alike : some.gone ≡ other.gone
  gone_alike = sym (first_word some.gone some.first (used_by some) (omega (arith, one.numbers))) ∙ ap (word_at 0) heads ∙ first_word other.gone other.first (used_by other) (omega (arith, two.numbers))

  first_alike : some.first ≡ other.first
  first_alike = sym (second_word some.gone some.first (used_by some) (omega (arith, one.place, small))) ∙ ap (word_at 8) heads ∙ second_word other.gone other.first (used_by other) (omega (arith, two.place, small))

  used_alike : used_by some ≡ used_by other
  used_alike = sym (third_word some.gone some.first (used_by some) (omega (arith, one.numbers))) ∙ ap (word_at 16) heads ∙ third_word other.gone other.first (used_by other) (omega (arith, two.numbers))

  lines_alike : spelled some.records ≡ spelled other.records
  lines_alike =
      sym one.lines
      ∙ ap (λ (n : ℕ). take n (rotated some.first (ring_of memory))) used_alike
      ∙ ap (λ (n : ℕ). take (used_by other) (rotated n (ring_of memory))) first_alike
      ∙ two.lines

  pub alike : some ≡ other
  alike = same_log some other gone_alike first_alike (spelled-alike some.records other.records lines_alike)

-- a memory of zero lines
pub fresh : (lines : ℕ) → Holds (zero_lines (suc lines)) (record { gone = 0; first = 0; records = [] })
unfolding zero_lines zero_line head_line
fresh lines = record { head = refl; place = omega (arith, length-replicate (suc lines) zero_line); room = omega (arith, length-replicate (suc lines) zero_line); numbers = omega arith; lines = refl }
