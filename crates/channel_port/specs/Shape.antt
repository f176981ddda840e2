-- What doesn't change of the channels of a memory.
use Rattle.std.specs.Prelude.{◌≡◌, ◌==◌, ℕ, ◌*◌, ◌%◌, ◌<◌, ◌≤◌, Bool}
use Rattle.ddr4_timing.specs.declared.timing.TheConstants.{FEWEST_LINES, MOST_LINES}
use Rattle.energy_budget.specs.declared.costs.Costs.{Costs}
use Rattle.energy_budget.specs.declared.costs.TheConstants.{PAGE_LINES}
use Rattle.channel_port.specs.Waits.{Waits, writes_on, reads_on}

-- How many lines there are and the channel of each, how many channels, how many writes may wait in one and how many reads may
-- be open in one, and what a closing save of them costs.
pub record Shape : Type 0 where
  pub lines : ℕ
  pub channels : ℕ
  pub channel_of : ℕ → ℕ
  pub depth : ℕ
  pub reads : ℕ
  pub costs : Costs

-- the numbers of a profile: whole pages, 1,024 of them at most, costs that are reckoned for them, and each line lies on one of
-- the channels
pub record IsShape (s : Shape) : Type 0 where
  pub some : FEWEST_LINES ≤ s.lines
  pub most : s.lines ≤ MOST_LINES
  pub whole : s.lines % PAGE_LINES ≡ 0
  pub pages : s.lines ≡ PAGE_LINES * s.costs.pages
  pub channels : s.channels ≡ s.costs.channels
  pub known : (line : ℕ) → line < s.lines → s.channel_of line < s.channels

-- whether the line's channel has no room for a further write, and for a further read
abbrev pub is_full_at : Shape → Waits → ℕ → Bool
is_full_at s waits line = writes_on (s.channel_of line) waits.writes == s.depth

abbrev pub is_full_of_reads_at : Shape → Waits → ℕ → Bool
is_full_of_reads_at s waits line = reads_on (s.channel_of line) waits.reads == s.reads
