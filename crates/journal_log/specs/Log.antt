-- A journal in a memory: line 0 is its head, and the lines behind it are a ring, in which its records lie.
use Rattle.std.specs.Prelude.{◌≡◌, ℕ, ◌+◌, ◌<◌, ◌^◌, List, ◌++◌, length, take, drop, replicate}
use Rattle.std.specs.Int.{w64, to_le_bytes}
use Rattle.line_memory.specs.Memory.{line_of}
use Rattle.journal_log.specs.Lines.{sizes_of, spelled}

-- What a journal holds: how many records were cut from its front, the place in the ring of the first line that is in use, and the
-- records that are there. The first of them has the number of those that were cut.
pub record Log : Type 0 where
  pub gone : ℕ
  pub first : ℕ
  pub records : List (List ℕ)

-- how many lines of the ring are in use
abbrev pub used_by : Log → ℕ
used_by log = sizes_of log.records

-- the number behind the last record
abbrev pub end_of : Log → ℕ
end_of log = log.gone + length log.records

-- the head that says how many records were cut, where the first line in use is, and how many lines are
unfoldable pub head_line : ℕ → ℕ → ℕ → List ℕ
head_line gone first used = to_le_bytes w64 gone ++ (to_le_bytes w64 first ++ (to_le_bytes w64 used ++ replicate 40 0))

abbrev pub head_of : Log → List ℕ
head_of log = head_line log.gone log.first (used_by log)

-- the lines behind the head, and a ring as it is read from a place on
abbrev pub ring_of : List (List ℕ) → List (List ℕ)
ring_of memory = drop 1 memory

abbrev pub rotated : ℕ → List (List ℕ) → List (List ℕ)
rotated first ring = drop first ring ++ take first ring

-- The memory holds this journal: its head says where the lines in use are, and these are the lines of the records.
pub record Holds (memory : List (List ℕ)) (log : Log) : Type 0 where
  pub head : line_of memory 0 ≡ head_of log
  pub place : log.first < length memory
  pub room : used_by log < length memory
  pub numbers : log.gone + used_by log < 2 ^ 64
  pub lines : take (used_by log) (rotated log.first (ring_of memory)) ≡ spelled log.records
