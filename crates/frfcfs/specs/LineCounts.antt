-- How many lines have the same low bits.
use Rattle.std.specs.Prelude.{◌≡◌, ℕ, ◌%◌, ◌<◌, Bool, nat_eq, List, count_by, slice_index}
use Rattle.frfcfs.specs.declared.line_counts.LineCounts.{LineCounts}

-- the nine low bits of a line
abbrev pub low_bits : ℕ → ℕ
low_bits line = line % 512

-- a line has these low bits
abbrev pub has_low_bits : ℕ → ℕ → Bool
has_low_bits bits line = nat_eq (low_bits line) bits

-- The counts are those of these lines.
abbrev pub AreCounts : List ℕ → LineCounts → Type 0
AreCounts lines counts = (bits : ℕ) → bits < 512 → slice_index counts.counts bits ≡ count_by (has_low_bits bits) lines
